use Rattle.std.proofs.Common.{sym, ap, ◌∙◌, Some}
use Rattle.std.specs.Cmp.Lexicographic.{nat_list_cmp_total}
use Rattle.std.specs.FinMap.{nat_cmp-IsAntisymmetric, slice_cmp-IsAntisymmetric}
use Rattle.file_index.proofs.Indexes.{get_at, get_in_gap}
use Rattle.file_index.proofs.name_map.NameMap.get.Goals as goal

pub returns-in-Ok : goal.returns-in-Ok
returns-in-Ok c =
    let has = rw c.deref.ensures.value at c.in-Ok.ensures.found in
    let found = get_at nat_list_cmp_total (slice_cmp-IsAntisymmetric nat_cmp-IsAntisymmetric) c.self.inside.entries.items c.args.name.now c.in-Ok.at c.self.invariant.rising has c.index.result.now in
    rw (← c.self.view_is) (ap (λ e. Some e.1) c.index.ensures ∙ sym found)

pub returns-in-Err : goal.returns-in-Err
returns-in-Err c =
    let gap = rw c.deref.ensures.value at c.in-Err.ensures.absent in
    rw (← c.self.view_is) (sym (get_in_gap nat_list_cmp_total (slice_cmp-IsAntisymmetric nat_cmp-IsAntisymmetric) c.self.inside.entries.items c.args.name.now c.in-Err.field-0 gap))
