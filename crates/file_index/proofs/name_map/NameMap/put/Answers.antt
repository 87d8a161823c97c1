use Rattle.std.proofs.Common.{vec_len, vec_capacity, ap, ◌∙◌, arith, rules}
use Rattle.std.specs.Cmp.Lexicographic.{nat_list_cmp_total}
use Rattle.std.specs.FinMap.{nat_cmp-IsAntisymmetric, slice_cmp-IsAntisymmetric}
use Rattle.file_index.proofs.SlotCounts.{room_for_one, room_after_one, inserted_counted, set_counted}
use Rattle.file_index.proofs.Indexes.{get_in_gap, puts_new, puts_over}
use Rattle.file_index.proofs.name_map.NameMap.put.Goals as goal

pub overflow_add-self : goal.overflow_add-self
overflow_add-self c =
    let m = c.self.inside in
    let gap = rw c.deref.ensures.value at c.in-Err.ensures.absent in
    let room = (rw (← c.self.view_is) at c.requires) (get_in_gap nat_list_cmp_total (slice_cmp-IsAntisymmetric nat_cmp-IsAntisymmetric) m.entries.items c.args.name c.in-Err.at gap) in
    omega (arith, (room_for_one (vec_capacity m.entries) (vec_len m.entries) m.slots room).1, c.slots_of_add.ensures.few)

pub insert_reserved-requires-clause-room : goal.insert_reserved-requires-clause-room
insert_reserved-requires-clause-room c =
    let m = c.self.inside in
    let gap = rw c.deref.ensures.value at c.in-Err.ensures.absent in
    let room = (rw (← c.self.view_is) at c.requires) (get_in_gap nat_list_cmp_total (slice_cmp-IsAntisymmetric nat_cmp-IsAntisymmetric) m.entries.items c.args.name c.in-Err.at gap) in
    (room_for_one (vec_capacity m.entries) (vec_len m.entries) m.slots room).0

pub invariant_of-self-in-Err : goal.invariant_of-self-in-Err
invariant_of-self-in-Err c =
    let m = c.self.inside in
    let gap = rw c.deref.ensures.value at c.in-Err.ensures.absent in
    rw c.insert_reserved.ensures.items
    (inserted_counted m.entries.items m.slots c.self.invariant c.args.name c.in-Err.at c.args.ino c.slots_of_add.result gap c.slots_of_add.ensures.slots)

pub invariant_of-self : goal.invariant_of-self
invariant_of-self c =
    let m = c.self.inside in
    let has = rw c.deref.ensures.value at c.in-Ok.ensures.found in
    set_counted m.entries.items m.slots c.self.invariant c.args.name c.in-Ok.at (c.index_mut.result.now.0, c.args.ino)
    (ap (λ e. e.0) c.index_mut.ensures.value ∙ has.key_is c.index_mut.result.now) has

pub returns-in-Ok : goal.returns-in-Ok
returns-in-Ok c =
    let has = rw c.deref.ensures.value at c.in-Ok.ensures.found in
    rw (← c.self.view_is) (puts_over nat_list_cmp_total (slice_cmp-IsAntisymmetric nat_cmp-IsAntisymmetric) c.self.inside.entries.items c.args.name c.in-Ok.at c.self.invariant.rising has (c.index_mut.result.now.0, c.args.ino) (ap (λ e. e.0) c.index_mut.ensures.value ∙ has.key_is c.index_mut.result.now) _ _ (search rules))

pub returns-in-Err : goal.returns-in-Err
returns-in-Err c =
    let m = c.self.inside in
    let gap = rw c.deref.ensures.value at c.in-Err.ensures.absent in
    let room = (rw (← c.self.view_is) at c.requires) (get_in_gap nat_list_cmp_total (slice_cmp-IsAntisymmetric nat_cmp-IsAntisymmetric) m.entries.items c.args.name c.in-Err.at gap) in
    let left = room_after_one (vec_capacity m.entries) (vec_len m.entries) m.slots (vec_capacity c.insert_reserved.new.items) c.slots_of_add.result
    c.insert_reserved.ensures.capacity c.slots_of_add.ensures.few room in
    rw (c.insert_reserved.ensures.items, ← c.self.view_is) (puts_new nat_list_cmp_total (slice_cmp-IsAntisymmetric nat_cmp-IsAntisymmetric) m.entries.items c.args.name c.in-Err.at gap c.args.ino _ _ (rw c.insert_reserved.ensures.len left))
