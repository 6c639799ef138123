use Rattle.std.proofs.Common.{◌+◌, rules}
use Rattle.names.specs.Names.{FolderEnd}
use Rattle.names.proofs.Folders.{one_end, size_end}
use Rattle.names.proofs.folder_len.Goals as goal

pub returns-in-Some-clause-value : goal.returns-in-Some-clause-value
returns-in-Some-clause-value c = let f : FolderEnd c.args.name.now (c.in-Some.last + 1) = search rules in one_end c.args.name.now (c.in-Some.last + 1) _ f (size_end c.args.name.now)

pub returns-in-None-clause-value : goal.returns-in-None-clause-value
returns-in-None-clause-value c = let f : FolderEnd c.args.name.now 0 = search rules in one_end c.args.name.now 0 _ f (size_end c.args.name.now)
