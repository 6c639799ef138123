-- The laws of words, for each kind of points. Assumes nothing.
use Rattle.std.specs.Prelude.{map, refl}
use Rattle.std.specs.Char.{to_ascii_lowercase}
use Rattle.points.specs.Ranks.{v4_fits, v6_fits, asn_fits}
use Rattle.point_words.specs.Texts.{itself, v4_of, v4_text, asn_of, asn_text, v6_of, v6_text}
use Rattle.point_words.specs.Laws.{WordLaws}
use Rattle.point_words.proofs.Narrow.{v4_read, v4_text_lem, asn_read, asn_text_lem}
use Rattle.point_words.proofs.Wide.{v6_read, v6_text_lem, v6_blind}

pub v4_laws : WordLaws v4_fits v4_text itself v4_of
v4_laws = record { text_read = v4_read; read_text = v4_text_lem; blind = λ w. refl }

pub v6_laws : WordLaws v6_fits v6_text (map to_ascii_lowercase) v6_of
v6_laws = record { text_read = v6_read; read_text = v6_text_lem; blind = v6_blind }

pub asn_laws : WordLaws asn_fits asn_text itself asn_of
asn_laws = record { text_read = asn_read; read_text = asn_text_lem; blind = λ w. refl }
