use Rattle.std.proofs.Common.{ℕ, ◌-◌, ◌<◌, List, length, refl, sym, ◌∙◌, ap, subst, arith}
use Rattle.std.specs.Prelude.{slice_index}
use Rattle.dn_volume.specs.Agrees.{agrees_with, is_stopped}
use Rattle.dn_volume.specs.declared.flight.Flight.{Flight}
use Rattle.dn_volume.proofs.Tables.{is_table, running_disk}
use Rattle.file_commit.specs.Append.{CanAppend, AppendsBetween, AppendsNew, AppendsThere}
use Rattle.file_ops.specs.Giving.{Gives, IsUnsharedAmong, CanGive}
use Rattle.dn_volume.proofs.Replaced.{flight_within, ends_at}
use Rattle.file_ops.proofs.Basics.{same_flight}
use Rattle.file_ops.proofs.Known.{
  in_table_of,
  in_nodes_of,
  tail_within_of,
  tail_read_of,
  units_there_of,
  can_append_of,
  node_read,
  both,
  same_count,
}
use Rattle.file_ops.proofs.Ready.{can_give}
use Rattle.file_ops.proofs.Committed.{breaks_by, answers_by, volume_by}
use Rattle.size_ops.proofs.Known.{is_last, fact, from, from_fits, small, cut_after, decides, inode_is, can_finish_cut}
use Rattle.size_ops.proofs.commit.commit_cut.Goals as goal

pub inode_word-requires-clause-ino : goal.inode_word-requires-clause-ino
inode_word-requires-clause-ino g c =
    let S = g.D.Pm.state in
    let found = running_disk S c.args.v.now c.requires.running c.requires.agrees in
    let f = c.end_flight-flight.result in
    let x = c.in-Data.change in
    let b = c.args.v.now.parts in
    let s = S c.args.v.now.device in
    let who = c.args.who in
    let last = is_last b who f x c.requires.last c.end_flight-flight.ensures.was c.in-Data.is in
    in_table_of found.0 b s who f x found.1 last.flies last.kind

pub load-tail-requires : goal.load-tail-requires
load-tail-requires g c =
    let S = g.D.Pm.state in
    let found = running_disk S c.args.v.now c.requires.running c.requires.agrees in
    let f = c.end_flight-flight.result in
    let x = c.in-Data.change in
    let b = c.args.v.now.parts in
    let s = S c.args.v.now.device in
    let who = c.args.who in
    let last = is_last b who f x c.requires.last c.end_flight-flight.ensures.was c.in-Data.is in
    subst (λ (a : ℕ). a < length s.now) (sym c.inode_word.ensures) (tail_within_of found.0 b s who f x found.1 last.flies last.kind)

pub first_gone-from-requires : goal.first_gone-from-requires
first_gone-from-requires g c =
    let S = g.D.Pm.state in
    let found = running_disk S c.args.v.now c.requires.running c.requires.agrees in
    let f = c.end_flight-flight.result in
    let x = c.in-Data.change in
    let b = c.args.v.now.parts in
    let s = S c.args.v.now.device in
    let who = c.args.who in
    let last = is_last b who f x c.requires.last c.end_flight-flight.ensures.was c.in-Data.is in
    small found.0 b s who f x found.1 last

pub index-requires : goal.index-requires
index-requires g c =
    let S = g.D.Pm.state in
    let found = running_disk S c.args.v.now c.requires.running c.requires.agrees in
    let f = c.end_flight-flight.result in
    let x = c.in-Data.change in
    let b = c.args.v.now.parts in
    let s = S c.args.v.now.device in
    let who = c.args.who in
    let last = is_last b who f x c.requires.last c.end_flight-flight.ensures.was c.in-Data.is in
    omega (arith, in_nodes_of found.0 b s who f x found.1 last.flies last.kind, b.inodes.ok.0)

pub overflow_sub-from : goal.overflow_sub-from
overflow_sub-from g c =
    let S = g.D.Pm.state in
    let found = running_disk S c.args.v.now c.requires.running c.requires.agrees in
    let f = c.end_flight-flight.result in
    let x = c.in-Data.change in
    let b = c.args.v.now.parts in
    let s = S c.args.v.now.device in
    let who = c.args.who in
    let last = is_last b who f x c.requires.last c.end_flight-flight.ensures.was c.in-Data.is in
    omega (arith, from_fits found.0 b s who f x found.1 last, c.first_gone-from.ensures)

pub give_back_unshared-requires-clause-in_file : goal.give_back_unshared-requires-clause-in_file
give_back_unshared-requires-clause-in_file g c =
    let S = g.D.Pm.state in
    let found = running_disk S c.args.v.now c.requires.running c.requires.agrees in
    let f = c.end_flight-flight.result in
    let x = c.in-Data.change in
    let b = c.args.v.now.parts in
    let s = S c.args.v.now.device in
    let who = c.args.who in
    let last = is_last b who f x c.requires.last c.end_flight-flight.ensures.was c.in-Data.is in
    omega (arith, from_fits found.0 b s who f x found.1 last, c.first_gone-from.ensures)

pub give_back_unshared-requires-clause-can : goal.give_back_unshared-requires-clause-can
give_back_unshared-requires-clause-can g c =
    let S = g.D.Pm.state in
    let found = running_disk S c.args.v.now c.requires.running c.requires.agrees in
    let f = c.end_flight-flight.result in
    let x = c.in-Data.change in
    let b = c.args.v.now.parts in
    let s = S c.args.v.now.device in
    let who = c.args.who in
    let last = is_last b who f x c.requires.last c.end_flight-flight.ensures.was c.in-Data.is in
    let node_is = node_read b.inodes.items f.ino c.index.result.now (in_nodes_of found.0 b s who f x found.1 last.flies last.kind) c.index.ensures in
    subst (λ (n : ℕ). CanGive s.now b.fact c.index.result.now.map.map n (4096 - n) b.free) (sym c.first_gone-from.ensures)
    (can_give found.0 b s who f x found.1 last.flies last.kind (fact found.0 b s who f x found.1 last) c.index.result.now node_is
    (from found.0 b s who f x found.1 last) (4096 - from found.0 b s who f x found.1 last))

pub append_items-requires-clause-ino : goal.append_items-requires-clause-ino
append_items-requires-clause-ino g c =
    let S = g.D.Pm.state in
    let found = running_disk S c.args.v.now c.requires.running c.requires.agrees in
    let f = c.end_flight-flight.result in
    let x = c.in-Data.change in
    let b = c.args.v.now.parts in
    let s = S c.args.v.now.device in
    let who = c.args.who in
    let last = is_last b who f x c.requires.last c.end_flight-flight.ensures.was c.in-Data.is in
    in_table_of found.0 b s who f x found.1 last.flies last.kind

pub append_items-requires-clause-can : goal.append_items-requires-clause-can
append_items-requires-clause-can g c =
    let S = g.D.Pm.state in
    let found = running_disk S c.args.v.now c.requires.running c.requires.agrees in
    let f = c.end_flight-flight.result in
    let x = c.in-Data.change in
    let b = c.args.v.now.parts in
    let s = S c.args.v.now.device in
    let who = c.args.who in
    let last = is_last b who f x c.requires.last c.end_flight-flight.ensures.was c.in-Data.is in
    both (λ (fresh : List ℕ) (slots : List (List ℕ)). CanAppend b.geometry who f.ino fresh slots s)
    c.deref-2.result.now f.fresh.items c.deref.result.now f.slots.items (sym c.deref-2.ensures.value) (sym c.deref.ensures.value)
    (can_append_of found.0 b s who f x found.1 last.flies last.kind (cut_after found.0 b s who f x found.1 last)
    (from found.0 b s who f x found.1 last) (4096 - from found.0 b s who f x found.1 last) (decides found.0 b s who f x found.1 last))

pub append_items-requires-clause-room : goal.append_items-requires-clause-room
append_items-requires-clause-room g c =
    let S = g.D.Pm.state in
    let found = running_disk S c.args.v.now c.requires.running c.requires.agrees in
    let f = c.end_flight-flight.result in
    let x = c.in-Data.change in
    let b = c.args.v.now.parts in
    let s = S c.args.v.now.device in
    let who = c.args.who in
    let last = is_last b who f x c.requires.last c.end_flight-flight.ensures.was c.in-Data.is in
    let e1 = ap length c.deref.ensures.value in
    let e2 = ap length c.deref-2.ensures.value in
    omega (arith, e1, e2, units_there_of found.0 b s who f x found.1 last.flies last.kind)

pub returns-in_default-append_items-clause-agrees : goal.returns-in_default-append_items-clause-agrees
returns-in_default-append_items-clause-agrees g c =
    let S = g.D.Pm.state in
    let found = running_disk S c.args.v.now c.requires.running c.requires.agrees in
    let f = c.end_flight-flight.result in
    let x = c.in-Data.change in
    let b = c.args.v.now.parts in
    let s = S c.args.v.now.device in
    let who = c.args.who in
    let last = is_last b who f x c.requires.last c.end_flight-flight.ensures.was c.in-Data.is in
    let between = (both (λ (fresh : List ℕ) (slots : List (List ℕ)). AppendsBetween b.geometry who f.ino fresh slots s
    (S c.append_items.new.device)) f.fresh.items c.deref-2.result.now f.slots.items c.deref.result.now
    c.deref-2.ensures.value c.deref.ensures.value c.append_items.ensures.any_moment) in
    let there = (both (λ (fresh : List ℕ) (slots : List (List ℕ)). AppendsThere b.geometry who f.ino fresh slots s
    (S c.append_items.new.device)) f.fresh.items c.deref-2.result.now f.slots.items c.deref.result.now
    c.deref-2.ensures.value c.deref.ensures.value c.append_items.ensures.only) in
    is_stopped (breaks_by S g.F.Fingerprint.print c.args.v.now (record { device = c.append_items.new.device; print = c.args.v.now.print; kept = c.args.v.now.kept; parts = _ })
    found.0 who f x found.1 last.flies last.kind (fact found.0 b s who f x found.1 last) (cut_after found.0 b s who f x found.1 last)
    (from found.0 b s who f x found.1 last) (4096 - from found.0 b s who f x found.1 last) (decides found.0 b s who f x found.1 last)
    between there c.append_items.ensures.faults f.op refl refl refl refl refl refl refl c.count_call-v.ensures
    (c.in_default-append_items.ensures.failed refl) c.put_back.ensures.here
    (λ k ne. c.put_back.ensures.others k ne ∙ c.end_flight-flight.ensures.others k ne)).stopped

pub returns-in_default-append_items-clause-event : goal.returns-in_default-append_items-clause-event
returns-in_default-append_items-clause-event g c =
    let S = g.D.Pm.state in
    let found = running_disk S c.args.v.now c.requires.running c.requires.agrees in
    let f = c.end_flight-flight.result in
    let x = c.in-Data.change in
    let b = c.args.v.now.parts in
    let s = S c.args.v.now.device in
    let who = c.args.who in
    let last = is_last b who f x c.requires.last c.end_flight-flight.ensures.was c.in-Data.is in
    λ d op v flies.
    let between = (both (λ (fresh : List ℕ) (slots : List (List ℕ)). AppendsBetween b.geometry who f.ino fresh slots s
    (S c.append_items.new.device)) f.fresh.items c.deref-2.result.now f.slots.items c.deref.result.now
    c.deref-2.ensures.value c.deref.ensures.value c.append_items.ensures.any_moment) in
    let there = (both (λ (fresh : List ℕ) (slots : List (List ℕ)). AppendsThere b.geometry who f.ino fresh slots s
    (S c.append_items.new.device)) f.fresh.items c.deref-2.result.now f.slots.items c.deref.result.now
    c.deref-2.ensures.value c.deref.ensures.value c.append_items.ensures.only) in
    let op_same = ap (λ (y : Flight). y.op) (same_flight _ f flies.flight c.end_flight-flight.ensures.was flies.flies.is) ∙ flies.op_is in
    breaks_by S g.F.Fingerprint.print c.args.v.now (record { device = c.append_items.new.device; print = c.args.v.now.print; kept = c.args.v.now.kept; parts = _ })
    d who f x v last.flies last.kind (fact d b s who f x v last) (cut_after d b s who f x v last) (from d b s who f x v last)
    (4096 - from d b s who f x v last) (decides d b s who f x v last)
    between there c.append_items.ensures.faults op op_same refl refl refl refl refl refl c.count_call-v.ensures
    (c.in_default-append_items.ensures.failed refl) c.put_back.ensures.here
    (λ k ne. c.put_back.ensures.others k ne ∙ c.end_flight-flight.ensures.others k ne)

pub finish_cut-requires : goal.finish_cut-requires
finish_cut-requires g c =
    let S = g.D.Pm.state in
    let found = running_disk S c.args.v.now c.requires.running c.requires.agrees in
    let f = c.end_flight-flight.result in
    let x = c.in-Data.change in
    let b = c.args.v.now.parts in
    let s = S c.args.v.now.device in
    let who = c.args.who in
    let last = is_last b who f x c.requires.last c.end_flight-flight.ensures.was c.in-Data.is in
    let node_is = node_read b.inodes.items f.ino c.index.result.now (in_nodes_of found.0 b s who f x found.1 last.flies last.kind) c.index.ensures in
    let tail_is = c.load-tail.ensures ∙ ap (slice_index s.now) c.inode_word.ensures ∙ tail_read_of found.0 b s who f x found.1 last.flies last.kind in
    let gives = subst (λ (n : ℕ). Gives (IsUnsharedAmong found.0 c.index.result.now.map.map n (4096 - n)) b.free c.give_back_unshared.new.free)
    c.first_gone-from.ensures (c.give_back_unshared.ensures found.0 (is_table found.0 b s found.1)) in
    record {
      can = (
        x,
        can_finish_cut found.0 b s who f x found.1 last c.index.result.now node_is _ c.load-tail.result tail_is gives refl
            refl refl refl refl,
      );
    }

pub returns-clause-agrees : goal.returns-clause-agrees
returns-clause-agrees g c =
    let S = g.D.Pm.state in
    let found = running_disk S c.args.v.now c.requires.running c.requires.agrees in
    let f = c.end_flight-flight.result in
    let x = c.in-Data.change in
    let b = c.args.v.now.parts in
    let s = S c.args.v.now.device in
    let who = c.args.who in
    let last = is_last b who f x c.requires.last c.end_flight-flight.ensures.was c.in-Data.is in
    let node_is = node_read b.inodes.items f.ino c.index.result.now (in_nodes_of found.0 b s who f x found.1 last.flies last.kind) c.index.ensures in
    let tail_is = c.load-tail.ensures ∙ ap (slice_index s.now) c.inode_word.ensures ∙ tail_read_of found.0 b s who f x found.1 last.flies last.kind in
    let gives = subst (λ (n : ℕ). Gives (IsUnsharedAmong found.0 c.index.result.now.map.map n (4096 - n)) b.free c.give_back_unshared.new.free)
    c.first_gone-from.ensures (c.give_back_unshared.ensures found.0 (is_table found.0 b s found.1)) in
    let between = (both (λ (fresh : List ℕ) (slots : List (List ℕ)). AppendsBetween b.geometry who f.ino fresh slots s
    (S c.append_items.new.device)) f.fresh.items c.deref-2.result.now f.slots.items c.deref.result.now
    c.deref-2.ensures.value c.deref.ensures.value c.append_items.ensures.any_moment) in
    let there = (both (λ (fresh : List ℕ) (slots : List (List ℕ)). AppendsThere b.geometry who f.ino fresh slots s
    (S c.append_items.new.device)) f.fresh.items c.deref-2.result.now f.slots.items c.deref.result.now
    c.deref-2.ensures.value c.deref.ensures.value c.append_items.ensures.only) in
    let stands = (both (λ (fresh : List ℕ) (slots : List (List ℕ)). AppendsNew b.geometry who f.ino fresh slots s
    (S c.append_items.new.device)) f.fresh.items c.deref-2.result.now f.slots.items c.deref.result.now
    c.deref-2.ensures.value c.deref.ensures.value c.in-Ok.ensures.done) in
    let e1 = ap length c.deref.ensures.value in
    let e2 = ap length c.deref-2.ensures.value in
    let finish = c.finish_cut.ensures x (can_finish_cut found.0 b s who f x found.1 last c.index.result.now node_is _ c.load-tail.result
    tail_is gives refl refl refl refl refl) in
    agrees_with _ (volume_by S g.F.Fingerprint.print c.args.v.now (record {
      device = c.append_items.new.device;
      print = c.args.v.now.print;
      kept = c.args.v.now.kept;
      parts = _;
    })
    found.0 who f x found.1 last.flies last.kind (fact found.0 b s who f x found.1 last) (cut_after found.0 b s who f x found.1 last)
    (from found.0 b s who f x found.1 last) (4096 - from found.0 b s who f x found.1 last) (decides found.0 b s who f x found.1 last)
    between there c.append_items.ensures.faults stands c.in-Ok.ensures.settles (omega (arith, c.append_items.ensures.spare, e1, e2))
    c.index.result.now node_is _ c.load-tail.result tail_is (record {
      geometry = refl;
      names = refl;
      fact = refl;
      trace = refl;
      stopped = refl;
      inodes = refl;
      queue = refl;
      reclaiming = refl;
      owed = refl;
      history = refl;
    })
    (ends_at b _ who f found.1.flights.clients c.end_flight-flight.ensures.clients c.end_flight-flight.ensures.was
    c.end_flight-flight.ensures.landed c.end_flight-flight.ensures.others refl refl) gives _ finish (inode_is found.0 b s who f x found.1 last _ _ c.load-tail.result tail_is refl finish.inodes))

pub returns-clause-event : goal.returns-clause-event
returns-clause-event g c =
    let S = g.D.Pm.state in
    let found = running_disk S c.args.v.now c.requires.running c.requires.agrees in
    let f = c.end_flight-flight.result in
    let x = c.in-Data.change in
    let b = c.args.v.now.parts in
    let s = S c.args.v.now.device in
    let who = c.args.who in
    let last = is_last b who f x c.requires.last c.end_flight-flight.ensures.was c.in-Data.is in
    λ d op v flies.
    let op_same = ap (λ (y : Flight). y.op) (same_flight _ f flies.flight c.end_flight-flight.ensures.was flies.flies.is) ∙ flies.op_is in
    let node_is = node_read b.inodes.items f.ino c.index.result.now (in_nodes_of d b s who f x v last.flies last.kind) c.index.ensures in
    let tail_is = c.load-tail.ensures ∙ ap (slice_index s.now) c.inode_word.ensures ∙ tail_read_of d b s who f x v last.flies last.kind in
    let gives = subst (λ (n : ℕ). Gives (IsUnsharedAmong d c.index.result.now.map.map n (4096 - n)) b.free c.give_back_unshared.new.free)
    c.first_gone-from.ensures (c.give_back_unshared.ensures d (is_table d b s v)) in
    let between = (both (λ (fresh : List ℕ) (slots : List (List ℕ)). AppendsBetween b.geometry who f.ino fresh slots s
    (S c.append_items.new.device)) f.fresh.items c.deref-2.result.now f.slots.items c.deref.result.now
    c.deref-2.ensures.value c.deref.ensures.value c.append_items.ensures.any_moment) in
    let there = (both (λ (fresh : List ℕ) (slots : List (List ℕ)). AppendsThere b.geometry who f.ino fresh slots s
    (S c.append_items.new.device)) f.fresh.items c.deref-2.result.now f.slots.items c.deref.result.now
    c.deref-2.ensures.value c.deref.ensures.value c.append_items.ensures.only) in
    let stands = (both (λ (fresh : List ℕ) (slots : List (List ℕ)). AppendsNew b.geometry who f.ino fresh slots s
    (S c.append_items.new.device)) f.fresh.items c.deref-2.result.now f.slots.items c.deref.result.now
    c.deref-2.ensures.value c.deref.ensures.value c.in-Ok.ensures.done) in
    let e1 = ap length c.deref.ensures.value in
    let e2 = ap length c.deref-2.ensures.value in
    let finish = c.finish_cut.ensures x (can_finish_cut d b s who f x v last c.index.result.now node_is _ c.load-tail.result tail_is gives
    refl refl refl refl refl) in (
      answers_by S g.F.Fingerprint.print c.args.v.now (record { device = c.append_items.new.device; print = c.args.v.now.print; kept = c.args.v.now.kept; parts = _ })
          d who f x v last.flies last.kind (fact d b s who f x v last) (cut_after d b s who f x v last) (from d b s who f x v last)
          (4096 - from d b s who f x v last) (decides d b s who f x v last)
          between there c.append_items.ensures.faults stands c.in-Ok.ensures.settles (omega (arith, c.append_items.ensures.spare, e1, e2))
          c.index.result.now node_is _ c.load-tail.result tail_is (record {
            geometry = refl;
            names = refl;
            fact = refl;
            trace = refl;
            stopped = refl;
            inodes = refl;
            queue = refl;
            reclaiming = refl;
            owed = refl;
            history = refl;
          })
          (ends_at b _ who f v.flights.clients c.end_flight-flight.ensures.clients c.end_flight-flight.ensures.was
          c.end_flight-flight.ensures.landed c.end_flight-flight.ensures.others refl refl) gives _ finish (inode_is d b s who f x v last _ _ c.load-tail.result tail_is refl finish.inodes) op op_same
          (same_count b.made c.count_call-v.result c.finish_cut.new.parts.made finish.made c.count_call-v.ensures),
      refl,
    )

pub put_back-requires-clause-there : goal.put_back-requires-clause-there
put_back-requires-clause-there g c = omega (
  arith,
  c.end_flight-flight.ensures.clients,
  flight_within c.args.v.now.parts.flights.items (c.args.who - 1) c.end_flight-flight.result c.end_flight-flight.ensures.was,
)
