use Rattle.std.proofs.Common.{◌<◌, [], ◌∷◌, ◌++◌, All, length, take, sym, refl, ap, ◌∙◌, subst, inl, inr, arith}
use Rattle.std.proofs.lemmas.List.{drop-set-lt, take_more_set}
use Rattle.std.proofs.lemmas.List.Elements.{All-push, All-set}
use Rattle.element.specs.Reading.{Octets, octets_of}
use Rattle.manifest.specs.declared.ManifestEntry.{ManifestEntry}
use Rattle.manifest.specs.Lending.{PlacedEntry}
use Rattle.manifest.specs.Manifests.{Listed, located_of, listed, front_seen}
use Rattle.manifest.proofs.Entries.{stored}
use Rattle.manifest.proofs.Lending.{in_machine}
use Rattle.manifest.proofs.take_entry.Goals as goal

pub returns-in-Ok-read_digest : goal.returns-in-Ok-read_digest
returns-in-Ok-read_digest c =
    let ts = c.args.lent.now.table.now in
    let n = c.args.count in
    let room : n < length ts = omega (arith, c.requires.room, c.args.lent.now.entries) in
    let part = c.in-Ok.front.name.content in
    let digest = c.in-Ok-read_digest.digest in
    let name = c.into.ensures in
    let hash = c.into-in-Ok-read_digest.ensures in
    let e : ManifestEntry = record { name = c.into.result; digest = c.into-in-Ok-read_digest.result } in
    let placed : PlacedEntry e = (in_machine part c.into.result name, in_machine digest c.into-in-Ok-read_digest.result hash) in
    record {
      value = record {
        opened = front_seen c.in-Ok.front;
        digest = octets_of c.in-Ok-read_digest.digest;
        opens = sym c.in-Ok.ensures.value;
        digests = sym c.in-Ok-read_digest.ensures.value;
        after_is = refl;
        notes = c.note.ensures.noted;
        files = stored ts n e room ∙ ap (λ (x : Listed). listed n ts ++ x ∷ []) (ap (λ (o : Octets). record { name = o; digest = located_of e.digest }) name ∙ ap (λ (o : Octets). record { name = octets_of part; digest = o }) hash);
        others = drop-set-lt _ ts n _ (omega arith);
      };
      placed = λ h. subst (All PlacedEntry) (sym (take_more_set ts n e room)) (All-push PlacedEntry (take n ts) e h placed);
      kept = All-set PlacedEntry ts n e placed;
      memory = (refl, refl);
    }

pub returns-in-Err : goal.returns-in-Err
returns-in-Err c = record { value = inl (refl, sym c.in-Err.ensures.value, refl); placed = tt; kept = λ h. h; memory = (refl, refl) }

pub returns-in-Err-read_digest : goal.returns-in-Err-read_digest
returns-in-Err-read_digest c =
    record {
      value = inr (
        refl,
        record {
          opened = front_seen c.in-Ok.front;
          opens = sym c.in-Ok.ensures.value;
          breaks = sym c.in-Err-read_digest.ensures.value;
          notes = c.note.ensures.noted;
        },
      );
      placed = tt;
      kept = λ h. h;
      memory = (refl, refl);
    }
