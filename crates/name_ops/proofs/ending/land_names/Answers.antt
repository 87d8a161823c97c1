use Rattle.std.proofs.Common.{◌≡◌, ◌+◌, ◌<◌, ◌≤◌, ℕ, List, length, refl, sym, ◌∙◌, ap, subst, arith}
use Rattle.std.specs.Prelude.{Contains, slice_set, slice_get}
use Rattle.std.proofs.lemmas.List.{length-set}
use Rattle.dn_volume.specs.declared.flight.NameChange.{NameChange}
use Rattle.dn_volume.specs.declared.volume.InodeState.{InodeState}
use Rattle.name_ops.specs.Landing.{turn_units, places_kept}
use Rattle.name_ops.specs.Ending.{Gives, LetsGoOf, GrowsRoot}
use Rattle.name_ops.proofs.GivenPages.{if_some, root_pages, turned_and_gone, grown_too, same_some}
use Rattle.name_ops.proofs.Kept.{node_at}
use Rattle.name_ops.proofs.Put.{same_names, finishes_same}
use Rattle.name_ops.proofs.ending.land_names.Goals as goal

pub give_back_pages-requires-clause-below : goal.give_back_pages-requires-clause-below
give_back_pages-requires-clause-below c = let can = c.requires.can in λ page has. can.1.spare_below page
    (subst (λ xs. Contains xs page) c.deref-2.ensures.value has)

pub give_back_pages-requires-clause-taken : goal.give_back_pages-requires-clause-taken
give_back_pages-requires-clause-taken c = let can = c.requires.can in λ page has. can.1.spare_taken page
    (subst (λ xs. Contains xs page) c.deref-2.ensures.value has)

pub grow_root-requires-clause-there : goal.grow_root-requires-clause-there
grow_root-requires-clause-there c =
    let can = c.requires.can in
    let long = c.let_go.ensures.all ∙ length-set c.args.parts.now.inodes.items c.in-Names.change.node c.turn_inode.new.node in
    omega (arith, can.1.node, long)

pub grow_root-requires-clause-room : goal.grow_root-requires-clause-room
grow_root-requires-clause-room c = if_some (λ (root : InodeState). root.log_pages + c.len.result < 18446744073709551616)
    (slice_get c.let_go.new.inodes.items 0) (λ n at.
    let can = c.requires.can in
    let f = c.args.flight in
    let long : c.len.result ≡ length f.fresh.items = omega (arith, c.len.ensures, f.fresh.ok.0) in
    let same = same_names f.change c.in-Names.change can.0 c.in-Names.is can.1.change_is in
    let file : 1 ≤ c.in-Names.change.node = subst (λ (y : NameChange). 1 ≤ y.node) (sym same) can.1.file in
    let was = root_pages c.in-Names.change.node _ c.args.parts.now.inodes.items c.let_go.new.inodes.items c.turn_inode.new.node file
    c.let_go.ensures n at in
    let few = can.1.root was.0 was.1 in
    omega (arith, few, was.2, long))

pub returns : goal.returns
returns c = λ x can.
    let f = c.args.flight in
    let b = c.args.parts.now in
    let same = same_names f.change c.in-Names.change x c.in-Names.is can.change_is in
    let lt : c.in-Names.change.node < length b.inodes.items = subst (λ (y : NameChange). y.node < length b.inodes.items) (sym same) can.node in
    let file : 1 ≤ c.in-Names.change.node = subst (λ (y : NameChange). 1 ≤ y.node) (sym same) can.file in
    let long : c.len.result ≡ length f.fresh.items = omega (arith, c.len.ensures, f.fresh.ok.0) in
    finishes_same c.args.who f c.in-Names.change x b _ same (record {
      geometry = refl;
      fact = refl;
      queue = refl;
      flights = refl;
      sharing = refl;
      trace = refl;
      stopped = refl;
      made = refl;
      free = subst (λ xs. Gives (Contains xs) b.free c.give_back_pages.new.free) c.deref-2.ensures.value c.give_back_pages.ensures;
      names = c.change_names.ensures.names;
      names_room = c.change_names.ensures.room;
      all = c.grow_root.ensures.all ∙ c.let_go.ensures.all ∙ length-set b.inodes.items c.in-Names.change.node c.turn_inode.new.node;
      each = grown_too f c.in-Names.change (length f.fresh.items) b.inodes.items c.let_go.new.inodes.items c.grow_root.new.inodes.items file
          (turned_and_gone f c.in-Names.change b.inodes.items c.let_go.new.inodes.items c.index_mut.result.now c.turn_inode.new.node
          file lt c.index_mut.ensures.value c.turn_inode.ensures.turned c.turn_inode.ensures.keeps
          (subst (λ (xs : List ℕ). LetsGoOf (Contains xs) (slice_set b.inodes.items c.in-Names.change.node c.turn_inode.new.node)
          c.let_go.new.inodes.items) c.deref.ensures.value c.let_go.ensures))
          (subst (λ (k : ℕ). GrowsRoot k c.let_go.new.inodes.items c.grow_root.new.inodes.items) long c.grow_root.ensures);
      raised = refl;
      zero_check = refl;
      releases = refl;
      cleaning = refl;
      waiting = λ n at. ap (λ (z : ℕ). b.reclaiming.waiting + z) (c.units_of_turn.ensures ∙ ap (λ (m : InodeState). turn_units c.in-Names.change.turn
          (places_kept m)) (same_some (slice_get b.inodes.items c.in-Names.change.node) c.index.result.now n (node_at b.inodes.items
          c.in-Names.change.node c.index.result.now lt c.index.ensures) at));
      units = let enough = can.units in omega (arith, enough);
      owed_trace = refl;
      owed_history = let enough = can.owed_history in omega (arith, enough);
      owed_queue = refl;
      owed_releases = refl;
      history = c.push_reserved.ensures.items;
      history_len = c.push_reserved.ensures.len;
      history_capacity = c.push_reserved.ensures.capacity;
    })
