use Rattle.std.proofs.Common.{rules}
use Rattle.std.specs.Ordering.{nat_cmp}
use Rattle.std.specs.Cmp.Lexicographic.{slice_cmp, nat_list_cmp_total}
use Rattle.std.specs.FinMap.{nat_cmp-IsAntisymmetric, slice_cmp-IsAntisymmetric}
use Rattle.std.proofs.lemmas.Fn.{always_returns_same}
use Rattle.file_index.proofs.Placed.{searched}
use Rattle.file_index.proofs.name_map.search_bytes.Goals as goal

pub returns : goal.returns
returns c =
    let facts = c.binary_search_by.ensures in
    let by_name = facts.position (λ entry. slice_cmp nat_cmp entry.0 c.args.name.now) (always_returns_same _ _ _ (λ a r g called. search rules)) in
    let ends = searched nat_list_cmp_total c.args.entries.now c.args.name.now (slice_cmp-IsAntisymmetric nat_cmp-IsAntisymmetric) c.requires _
    facts.bound by_name in
    record { found = ends.found; absent = ends.absent }
