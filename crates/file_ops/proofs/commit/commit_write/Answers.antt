use Rattle.std.proofs.Common.{◌≡◌, ℕ, ◌-◌, ◌<◌, List, length, refl, sym, ◌∙◌, ap, subst, arith}
use Rattle.std.specs.Prelude.{slice_index}
use Rattle.dn_volume.specs.Agrees.{agrees_with, is_stopped}
use Rattle.dn_volume.proofs.Tables.{is_table, running_disk}
use Rattle.file_commit.specs.Append.{CanAppend, AppendsBetween, AppendsNew, AppendsThere}
use Rattle.file_ops.specs.Giving.{Gives, IsUnsharedAmong, CanGive}
use Rattle.dn_volume.proofs.Replaced.{flight_within, ends_at}
use Rattle.file_ops.proofs.Basics.{same_flight}
use Rattle.file_ops.proofs.Known.{
  is_last,
  fact,
  in_table,
  in_nodes,
  tail_within,
  tail_read,
  places_in_file,
  can_append,
  units_there,
  node_read,
  both,
  same_count,
}
use Rattle.file_ops.proofs.Ready.{can_give, can_finish}
use Rattle.file_ops.proofs.Committed.{breaks, answers, volume_now}
use Rattle.dn_volume.specs.declared.flight.Flight.{Flight}
use Rattle.file_ops.proofs.commit.commit_write.Goals as goal

pub inode_word-requires-clause-ino : goal.inode_word-requires-clause-ino
inode_word-requires-clause-ino g c =
    let S = g.D.Pm.state in
    let found = running_disk S c.args.v.now c.requires.running c.requires.agrees in
    let f = c.end_flight-flight.result in
    let last = is_last c.args.v.now.parts c.args.who f c.in-Data.change c.requires.last c.end_flight-flight.ensures.was c.in-Data.is in
    in_table found.0 c.args.v.now.parts (S c.args.v.now.device) c.args.who f c.in-Data.change found.1 last

pub load-tail-requires : goal.load-tail-requires
load-tail-requires g c =
    let S = g.D.Pm.state in
    let found = running_disk S c.args.v.now c.requires.running c.requires.agrees in
    let f = c.end_flight-flight.result in
    let last = is_last c.args.v.now.parts c.args.who f c.in-Data.change c.requires.last c.end_flight-flight.ensures.was c.in-Data.is in
    subst (λ (a : ℕ). a < length (S c.args.v.now.device).now) (sym c.inode_word.ensures)
    (tail_within found.0 c.args.v.now.parts (S c.args.v.now.device) c.args.who f c.in-Data.change found.1 last)

pub index-requires : goal.index-requires
index-requires g c =
    let S = g.D.Pm.state in
    let found = running_disk S c.args.v.now c.requires.running c.requires.agrees in
    let f = c.end_flight-flight.result in
    let last = is_last c.args.v.now.parts c.args.who f c.in-Data.change c.requires.last c.end_flight-flight.ensures.was c.in-Data.is in
    omega (
      arith,
      in_nodes found.0 c.args.v.now.parts (S c.args.v.now.device) c.args.who f c.in-Data.change found.1 last,
      c.args.v.now.parts.inodes.ok.0,
    )

pub give_back_unshared-requires-clause-in_file : goal.give_back_unshared-requires-clause-in_file
give_back_unshared-requires-clause-in_file g c =
    let S = g.D.Pm.state in
    let found = running_disk S c.args.v.now c.requires.running c.requires.agrees in
    let f = c.end_flight-flight.result in
    let last = is_last c.args.v.now.parts c.args.who f c.in-Data.change c.requires.last c.end_flight-flight.ensures.was c.in-Data.is in
    omega (
      arith,
      places_in_file found.0 c.args.v.now.parts (S c.args.v.now.device) c.args.who f c.in-Data.change found.1 last,
      c.len.ensures,
      c.in-Data.change.blocks.ok.0,
    )

pub give_back_unshared-requires-clause-can : goal.give_back_unshared-requires-clause-can
give_back_unshared-requires-clause-can g c =
    let S = g.D.Pm.state in
    let found = running_disk S c.args.v.now c.requires.running c.requires.agrees in
    let f = c.end_flight-flight.result in
    let last = is_last c.args.v.now.parts c.args.who f c.in-Data.change c.requires.last c.end_flight-flight.ensures.was c.in-Data.is in
    let len_is : c.len.result ≡ length c.in-Data.change.blocks.items = omega (arith, c.len.ensures, c.in-Data.change.blocks.ok.0) in
    let node_is = node_read c.args.v.now.parts.inodes.items f.ino c.index.result.now (in_nodes found.0 c.args.v.now.parts (S c.args.v.now.device)
    c.args.who f c.in-Data.change found.1 last) c.index.ensures in
    subst (λ (n : ℕ). CanGive (S c.args.v.now.device).now c.args.v.now.parts.fact c.index.result.now.map.map c.in-Data.change.first n
    c.args.v.now.parts.free) (sym len_is)
    (can_give found.0 c.args.v.now.parts (S c.args.v.now.device) c.args.who f c.in-Data.change found.1 last.flies last.kind
    (fact found.0 c.args.v.now.parts (S c.args.v.now.device) c.args.who f c.in-Data.change found.1 last) c.index.result.now node_is
    c.in-Data.change.first (length c.in-Data.change.blocks.items))

pub append_items-requires-clause-ino : goal.append_items-requires-clause-ino
append_items-requires-clause-ino g c =
    let S = g.D.Pm.state in
    let found = running_disk S c.args.v.now c.requires.running c.requires.agrees in
    let f = c.end_flight-flight.result in
    let last = is_last c.args.v.now.parts c.args.who f c.in-Data.change c.requires.last c.end_flight-flight.ensures.was c.in-Data.is in
    in_table found.0 c.args.v.now.parts (S c.args.v.now.device) c.args.who f c.in-Data.change found.1 last

pub append_items-requires-clause-can : goal.append_items-requires-clause-can
append_items-requires-clause-can g c =
    let S = g.D.Pm.state in
    let found = running_disk S c.args.v.now c.requires.running c.requires.agrees in
    let f = c.end_flight-flight.result in
    let last = is_last c.args.v.now.parts c.args.who f c.in-Data.change c.requires.last c.end_flight-flight.ensures.was c.in-Data.is in
    both (λ (fresh : List ℕ) (slots : List (List ℕ)). CanAppend c.args.v.now.parts.geometry c.args.who f.ino fresh slots (S c.args.v.now.device))
    c.deref-2.result.now f.fresh.items c.deref.result.now f.slots.items
    (sym c.deref-2.ensures.value) (sym c.deref.ensures.value) (can_append found.0 c.args.v.now.parts (S c.args.v.now.device) c.args.who f
    c.in-Data.change found.1 last)

pub append_items-requires-clause-room : goal.append_items-requires-clause-room
append_items-requires-clause-room g c =
    let S = g.D.Pm.state in
    let found = running_disk S c.args.v.now c.requires.running c.requires.agrees in
    let f = c.end_flight-flight.result in
    let last = is_last c.args.v.now.parts c.args.who f c.in-Data.change c.requires.last c.end_flight-flight.ensures.was c.in-Data.is in
    let e1 = ap length c.deref.ensures.value in
    let e2 = ap length c.deref-2.ensures.value in
    omega (arith, e1, e2, units_there found.0 c.args.v.now.parts (S c.args.v.now.device) c.args.who f c.in-Data.change found.1 last)

pub returns-in_default-append_items-clause-agrees : goal.returns-in_default-append_items-clause-agrees
returns-in_default-append_items-clause-agrees g c =
    let S = g.D.Pm.state in
    let found = running_disk S c.args.v.now c.requires.running c.requires.agrees in
    let f = c.end_flight-flight.result in
    let last = is_last c.args.v.now.parts c.args.who f c.in-Data.change c.requires.last c.end_flight-flight.ensures.was c.in-Data.is in
    let between = (both (λ (fresh : List ℕ) (slots : List (List ℕ)). AppendsBetween c.args.v.now.parts.geometry c.args.who f.ino fresh slots
    (S c.args.v.now.device) (S c.append_items.new.device)) f.fresh.items c.deref-2.result.now f.slots.items c.deref.result.now
    c.deref-2.ensures.value c.deref.ensures.value c.append_items.ensures.any_moment) in
    let there = (both (λ (fresh : List ℕ) (slots : List (List ℕ)). AppendsThere c.args.v.now.parts.geometry c.args.who f.ino fresh slots
    (S c.args.v.now.device) (S c.append_items.new.device)) f.fresh.items c.deref-2.result.now f.slots.items c.deref.result.now
    c.deref-2.ensures.value c.deref.ensures.value c.append_items.ensures.only) in
    is_stopped (breaks S g.F.Fingerprint.print c.args.v.now (record { device = c.append_items.new.device; print = c.args.v.now.print; kept = c.args.v.now.kept; parts = _ })
    found.0 c.args.who f c.in-Data.change found.1 last.flies last.kind (fact found.0 c.args.v.now.parts (S c.args.v.now.device) c.args.who f
    c.in-Data.change found.1 last) last.name last.at last.text last.op_is last.all_filled last.all_raised
    between there c.append_items.ensures.faults
    f.op refl refl refl refl refl refl refl c.count_call-v.ensures (c.in_default-append_items.ensures.failed refl)
    c.put_back.ensures.here (λ k ne. c.put_back.ensures.others k ne ∙ c.end_flight-flight.ensures.others k ne)).stopped

pub returns-in_default-append_items-clause-event : goal.returns-in_default-append_items-clause-event
returns-in_default-append_items-clause-event g c =
    let S = g.D.Pm.state in
    let found = running_disk S c.args.v.now c.requires.running c.requires.agrees in
    let f = c.end_flight-flight.result in
    let last = is_last c.args.v.now.parts c.args.who f c.in-Data.change c.requires.last c.end_flight-flight.ensures.was c.in-Data.is in
    λ d op v flies.
    let between = (both (λ (fresh : List ℕ) (slots : List (List ℕ)). AppendsBetween c.args.v.now.parts.geometry c.args.who f.ino fresh slots
    (S c.args.v.now.device) (S c.append_items.new.device)) f.fresh.items c.deref-2.result.now f.slots.items c.deref.result.now
    c.deref-2.ensures.value c.deref.ensures.value c.append_items.ensures.any_moment) in
    let there = (both (λ (fresh : List ℕ) (slots : List (List ℕ)). AppendsThere c.args.v.now.parts.geometry c.args.who f.ino fresh slots
    (S c.args.v.now.device) (S c.append_items.new.device)) f.fresh.items c.deref-2.result.now f.slots.items c.deref.result.now
    c.deref-2.ensures.value c.deref.ensures.value c.append_items.ensures.only) in
    let op_same = ap (λ (x : Flight). x.op) (same_flight _ f flies.flight c.end_flight-flight.ensures.was flies.flies.is) ∙ flies.op_is in
    breaks S g.F.Fingerprint.print c.args.v.now (record { device = c.append_items.new.device; print = c.args.v.now.print; kept = c.args.v.now.kept; parts = _ }) d c.args.who f
    c.in-Data.change v last.flies last.kind (fact d c.args.v.now.parts (S c.args.v.now.device) c.args.who f c.in-Data.change v last) last.name
    last.at last.text last.op_is last.all_filled last.all_raised
    between there c.append_items.ensures.faults
    op op_same refl refl refl refl refl refl c.count_call-v.ensures (c.in_default-append_items.ensures.failed refl)
    c.put_back.ensures.here (λ k ne. c.put_back.ensures.others k ne ∙ c.end_flight-flight.ensures.others k ne)

pub finish_parts-requires : goal.finish_parts-requires
finish_parts-requires g c =
    let S = g.D.Pm.state in
    let found = running_disk S c.args.v.now c.requires.running c.requires.agrees in
    let f = c.end_flight-flight.result in
    let last = is_last c.args.v.now.parts c.args.who f c.in-Data.change c.requires.last c.end_flight-flight.ensures.was c.in-Data.is in
    let len_is : c.len.result ≡ length c.in-Data.change.blocks.items = omega (arith, c.len.ensures, c.in-Data.change.blocks.ok.0) in
    let node_is = node_read c.args.v.now.parts.inodes.items f.ino c.index.result.now (in_nodes found.0 c.args.v.now.parts (S c.args.v.now.device)
    c.args.who f c.in-Data.change found.1 last) c.index.ensures in
    let tail_is = c.load-tail.ensures ∙ ap (slice_index (S c.args.v.now.device).now) c.inode_word.ensures ∙ tail_read found.0 c.args.v.now.parts
    (S c.args.v.now.device) c.args.who f c.in-Data.change found.1 last in
    let gives = subst (λ (n : ℕ). Gives (IsUnsharedAmong found.0 c.index.result.now.map.map c.in-Data.change.first n) c.args.v.now.parts.free
    c.give_back_unshared.new.free) len_is
    (c.give_back_unshared.ensures found.0 (is_table found.0 c.args.v.now.parts (S c.args.v.now.device) found.1)) in
    record {
      can = (
        c.in-Data.change,
        can_finish found.0 c.args.v.now.parts (S c.args.v.now.device) c.args.who f c.in-Data.change found.1 last.flies last.kind
            (fact found.0 c.args.v.now.parts (S c.args.v.now.device) c.args.who f c.in-Data.change found.1 last) c.index.result.now node_is
            _ c.load-tail.result last.name last.at last.text last.op_is last.all_filled last.all_raised tail_is gives refl refl refl refl refl,
      );
    }

pub returns-clause-agrees : goal.returns-clause-agrees
returns-clause-agrees g c =
    let S = g.D.Pm.state in
    let found = running_disk S c.args.v.now c.requires.running c.requires.agrees in
    let f = c.end_flight-flight.result in
    let last = is_last c.args.v.now.parts c.args.who f c.in-Data.change c.requires.last c.end_flight-flight.ensures.was c.in-Data.is in
    agrees_with _ (
    let len_is : c.len.result ≡ length c.in-Data.change.blocks.items = omega (arith, c.len.ensures, c.in-Data.change.blocks.ok.0) in
    let node_is = node_read c.args.v.now.parts.inodes.items f.ino c.index.result.now (in_nodes found.0 c.args.v.now.parts (S c.args.v.now.device)
    c.args.who f c.in-Data.change found.1 last) c.index.ensures in
    let tail_is = c.load-tail.ensures ∙ ap (slice_index (S c.args.v.now.device).now) c.inode_word.ensures ∙ tail_read found.0 c.args.v.now.parts
    (S c.args.v.now.device) c.args.who f c.in-Data.change found.1 last in
    let gives = subst (λ (n : ℕ). Gives (IsUnsharedAmong found.0 c.index.result.now.map.map c.in-Data.change.first n) c.args.v.now.parts.free
    c.give_back_unshared.new.free) len_is
    (c.give_back_unshared.ensures found.0 (is_table found.0 c.args.v.now.parts (S c.args.v.now.device) found.1)) in
    let between = (both (λ (fresh : List ℕ) (slots : List (List ℕ)). AppendsBetween c.args.v.now.parts.geometry c.args.who f.ino fresh slots
    (S c.args.v.now.device) (S c.append_items.new.device)) f.fresh.items c.deref-2.result.now f.slots.items c.deref.result.now
    c.deref-2.ensures.value c.deref.ensures.value c.append_items.ensures.any_moment) in
    let there = (both (λ (fresh : List ℕ) (slots : List (List ℕ)). AppendsThere c.args.v.now.parts.geometry c.args.who f.ino fresh slots
    (S c.args.v.now.device) (S c.append_items.new.device)) f.fresh.items c.deref-2.result.now f.slots.items c.deref.result.now
    c.deref-2.ensures.value c.deref.ensures.value c.append_items.ensures.only) in
    let stands = (both (λ (fresh : List ℕ) (slots : List (List ℕ)). AppendsNew c.args.v.now.parts.geometry c.args.who f.ino fresh slots
    (S c.args.v.now.device) (S c.append_items.new.device)) f.fresh.items c.deref-2.result.now f.slots.items c.deref.result.now
    c.deref-2.ensures.value c.deref.ensures.value c.in-Ok.ensures.done) in
    let e1 = ap length c.deref.ensures.value in
    let e2 = ap length c.deref-2.ensures.value in
    let finish = c.finish_parts.ensures c.in-Data.change (can_finish found.0 c.args.v.now.parts (S c.args.v.now.device) c.args.who f c.in-Data.change
    found.1 last.flies last.kind (fact found.0 c.args.v.now.parts (S c.args.v.now.device) c.args.who f c.in-Data.change found.1 last)
    c.index.result.now node_is
    _ c.load-tail.result last.name last.at last.text last.op_is last.all_filled last.all_raised tail_is gives refl refl refl refl refl) in
    volume_now S g.F.Fingerprint.print c.args.v.now (record { device = c.append_items.new.device; print = c.args.v.now.print; kept = c.args.v.now.kept; parts = _ }) found.0
    c.args.who f c.in-Data.change found.1 last.flies last.kind (fact found.0 c.args.v.now.parts (S c.args.v.now.device) c.args.who f
    c.in-Data.change found.1 last) last.name last.at last.text last.op_is last.all_filled last.all_raised
    between there c.append_items.ensures.faults
    stands c.in-Ok.ensures.settles (omega (arith, c.append_items.ensures.spare, e1, e2)) c.index.result.now node_is _ c.load-tail.result tail_is
    (record {
      geometry = refl;
      names = refl;
      fact = refl;
      trace = refl;
      stopped = refl;
      inodes = refl;
      queue = refl;
      reclaiming = refl;
      owed = refl;
      history = refl;
    })
    (ends_at c.args.v.now.parts _ c.args.who f found.1.flights.clients c.end_flight-flight.ensures.clients c.end_flight-flight.ensures.was
    c.end_flight-flight.ensures.landed c.end_flight-flight.ensures.others refl refl) gives finish)

pub returns-clause-event : goal.returns-clause-event
returns-clause-event g c =
    let S = g.D.Pm.state in
    let found = running_disk S c.args.v.now c.requires.running c.requires.agrees in
    let f = c.end_flight-flight.result in
    let last = is_last c.args.v.now.parts c.args.who f c.in-Data.change c.requires.last c.end_flight-flight.ensures.was c.in-Data.is in
    λ d op v flies.
    let op_same = ap (λ (x : Flight). x.op) (same_flight _ f flies.flight c.end_flight-flight.ensures.was flies.flies.is) ∙ flies.op_is in (
      let len_is : c.len.result ≡ length c.in-Data.change.blocks.items = omega (arith, c.len.ensures, c.in-Data.change.blocks.ok.0) in
          let node_is = node_read c.args.v.now.parts.inodes.items f.ino c.index.result.now (in_nodes d c.args.v.now.parts (S c.args.v.now.device)
          c.args.who f c.in-Data.change v last) c.index.ensures in
          let tail_is = c.load-tail.ensures ∙ ap (slice_index (S c.args.v.now.device).now) c.inode_word.ensures ∙ tail_read d c.args.v.now.parts
          (S c.args.v.now.device) c.args.who f c.in-Data.change v last in
          let gives = subst (λ (n : ℕ). Gives (IsUnsharedAmong d c.index.result.now.map.map c.in-Data.change.first n) c.args.v.now.parts.free
          c.give_back_unshared.new.free) len_is
          (c.give_back_unshared.ensures d (is_table d c.args.v.now.parts (S c.args.v.now.device) v)) in
          let between = (both (λ (fresh : List ℕ) (slots : List (List ℕ)). AppendsBetween c.args.v.now.parts.geometry c.args.who f.ino fresh slots
          (S c.args.v.now.device) (S c.append_items.new.device)) f.fresh.items c.deref-2.result.now f.slots.items c.deref.result.now
          c.deref-2.ensures.value c.deref.ensures.value c.append_items.ensures.any_moment) in
          let there = (both (λ (fresh : List ℕ) (slots : List (List ℕ)). AppendsThere c.args.v.now.parts.geometry c.args.who f.ino fresh slots
          (S c.args.v.now.device) (S c.append_items.new.device)) f.fresh.items c.deref-2.result.now f.slots.items c.deref.result.now
          c.deref-2.ensures.value c.deref.ensures.value c.append_items.ensures.only) in
          let stands = (both (λ (fresh : List ℕ) (slots : List (List ℕ)). AppendsNew c.args.v.now.parts.geometry c.args.who f.ino fresh slots
          (S c.args.v.now.device) (S c.append_items.new.device)) f.fresh.items c.deref-2.result.now f.slots.items c.deref.result.now
          c.deref-2.ensures.value c.deref.ensures.value c.in-Ok.ensures.done) in
          let e1 = ap length c.deref.ensures.value in
          let e2 = ap length c.deref-2.ensures.value in
          let finish = c.finish_parts.ensures c.in-Data.change (can_finish d c.args.v.now.parts (S c.args.v.now.device) c.args.who f c.in-Data.change
          v last.flies last.kind (fact d c.args.v.now.parts (S c.args.v.now.device) c.args.who f c.in-Data.change v last) c.index.result.now
          node_is
          _ c.load-tail.result last.name last.at last.text last.op_is last.all_filled last.all_raised tail_is gives refl refl refl refl refl) in
          answers S g.F.Fingerprint.print c.args.v.now (record { device = c.append_items.new.device; print = c.args.v.now.print; kept = c.args.v.now.kept; parts = _ }) d
          c.args.who f c.in-Data.change v last.flies last.kind (fact d c.args.v.now.parts (S c.args.v.now.device) c.args.who f c.in-Data.change v
          last) last.name last.at last.text last.op_is last.all_filled last.all_raised
          between there c.append_items.ensures.faults
          stands c.in-Ok.ensures.settles (omega (arith, c.append_items.ensures.spare, e1, e2)) c.index.result.now node_is _ c.load-tail.result tail_is
          (record {
            geometry = refl;
            names = refl;
            fact = refl;
            trace = refl;
            stopped = refl;
            inodes = refl;
            queue = refl;
            reclaiming = refl;
            owed = refl;
            history = refl;
          })
          (ends_at c.args.v.now.parts _ c.args.who f v.flights.clients c.end_flight-flight.ensures.clients c.end_flight-flight.ensures.was
          c.end_flight-flight.ensures.landed c.end_flight-flight.ensures.others refl refl) gives finish op op_same (same_count c.args.v.now.parts.made c.count_call-v.result
          c.finish_parts.new.parts.made finish.made c.count_call-v.ensures),
      refl,
    )

pub put_back-requires-clause-there : goal.put_back-requires-clause-there
put_back-requires-clause-there g c = omega (
  arith,
  c.end_flight-flight.ensures.clients,
  flight_within c.args.v.now.parts.flights.items
      (c.args.who - 1) c.end_flight-flight.result c.end_flight-flight.ensures.was,
)
