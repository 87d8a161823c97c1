use Rattle.std.proofs.Common.{◌-◌, vec_len, vec_capacity, arith}
use Rattle.std.specs.Cmp.Lexicographic.{nat_list_cmp_total}
use Rattle.std.specs.FinMap.{nat_cmp-IsAntisymmetric, slice_cmp-IsAntisymmetric}
use Rattle.file_index.proofs.SlotCounts.{removed_counted, room_grows}
use Rattle.file_index.proofs.Indexes.{drops_none, drops_at}
use Rattle.file_index.proofs.name_map.NameMap.drop_bytes.Goals as goal

pub overflow_sub-self : goal.overflow_sub-self
overflow_sub-self c =
    let m = c.self.inside in
    let has = rw c.deref.ensures.value at c.in-Ok.ensures.found in
    (removed_counted m.entries.items m.slots c.self.invariant c.args.name.now c.in-Ok.place c.remove-gone.result c.slots_of_add.result has
    c.remove-gone.ensures.value c.slots_of_add.ensures.slots).0

pub invariant_of-self : goal.invariant_of-self
invariant_of-self c =
    let m = c.self.inside in
    let has = rw c.deref.ensures.value at c.in-Ok.ensures.found in
    rw c.remove-gone.ensures.items
    (removed_counted m.entries.items m.slots c.self.invariant c.args.name.now c.in-Ok.place c.remove-gone.result c.slots_of_add.result has
    c.remove-gone.ensures.value c.slots_of_add.ensures.slots).1

pub returns-in-Ok : goal.returns-in-Ok
returns-in-Ok c =
    let m = c.self.inside in
    let rest = c.remove-gone.new.self in
    let room = room_grows (vec_capacity m.entries) (vec_len m.entries) m.slots (vec_capacity rest) (vec_len rest) (m.slots - c.slots_of_add.result)
    (omega (arith, c.remove-gone.ensures.len, c.remove-gone.ensures.capacity)) (omega arith) in
    let has = rw c.deref.ensures.value at c.in-Ok.ensures.found in
    rw (c.remove-gone.ensures.items, ← c.self.view_is)
    (drops_at nat_list_cmp_total (slice_cmp-IsAntisymmetric nat_cmp-IsAntisymmetric) c.self.inside.entries.items c.args.name.now c.in-Ok.place c.self.invariant.rising has c.remove-gone.result _ _ room)

pub returns-in_default : goal.returns-in_default
returns-in_default c =
    let gap = rw c.deref.ensures.value at c.in_default.ensures.absent in
    rw (← c.self.view_is) (drops_none nat_list_cmp_total (slice_cmp-IsAntisymmetric nat_cmp-IsAntisymmetric) c.self.inside.entries.items c.args.name.now c.in_default.field-0 gap _)
