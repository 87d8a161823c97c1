use Rattle.std.proofs.Common.{rules}
use Rattle.std.specs.Ordering.{nat_cmp}
use Rattle.std.specs.Cmp.Lexicographic.{slice_cmp}
use Rattle.std.proofs.lemmas.Fn.{always_returns_same}
use Rattle.dn_files.proofs.ByName.{searched}
use Rattle.dn_files.proofs.files.search.Goals as goal

pub returns : goal.returns
returns c =
    let facts = c.binary_search_by.ensures in
    let by_name = facts.position (λ file. slice_cmp nat_cmp file.name c.args.name.now) (always_returns_same _ _ _ (λ a r g called. search rules)) in
    let ends = searched c.args.files.now c.args.name.now c.requires _ facts.bound by_name in
    record { found = ends.found; absent = ends.absent }
