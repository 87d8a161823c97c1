use Rattle.std.proofs.Common.{◌≡◌, ℕ, length, ◌∙◌, refl, ap, arith}
use Rattle.page_alloc.specs.Free.{FreePages}
use Rattle.dn_volume.specs.declared.volume.Volume.{Volume}
use Rattle.dn_volume.specs.Agrees.{agrees_with}
use Rattle.dn_volume.proofs.Tables.{running_disk}
use Rattle.name_ops.specs.Finding.{owed_names}
use Rattle.name_ops.proofs.MayOpen.{pages_few, plan_few, few, room_alone, last, held_inside, has_begun}
use Rattle.name_ops.proofs.opening.open_names.Goals as goal

pub names_room-room-requires-clause-few : goal.names_room-room-requires-clause-few
names_room-room-requires-clause-few g c =
    let found = running_disk g.D.Pm.state c.args.v.now c.requires.running c.requires.agrees in
    let few = plan_few found.0 c.args.v.now.parts (g.D.Pm.state c.args.v.now.device) found.1 c.args.op c.args.plan c.args.pages
    (c.requires.can found.0 found.1) in
    let same = c.len.ensures in omega (arith, few, same)

pub names_room-room-requires-clause-page : goal.names_room-room-requires-clause-page
names_room-room-requires-clause-page g c =
    let found = running_disk g.D.Pm.state c.args.v.now c.requires.running c.requires.agrees in
    pages_few found.0 c.args.v.now.parts (g.D.Pm.state c.args.v.now.device) found.1 c.args.op c.args.plan c.args.pages
    (c.requires.can found.0 found.1)

pub returns-then-not-make_room-clause-agrees : goal.returns-then-not-make_room-clause-agrees
returns-then-not-make_room-clause-agrees g c =
    let found = running_disk g.D.Pm.state c.args.v.now c.requires.running c.requires.agrees in
    agrees_with found.0 (room_alone g.D.Pm.state c.args.who c.args.op c.args.plan c.args.pages c.args.v.now c.make_room.new.v found.0 found.1
    c.requires.begins (c.requires.can found.0 found.1) (g.met.D.Pm.agree c.args.v.now.device) (g.met.D.Pm.agree c.make_room.new.v.device)
    c.make_room.ensures.device c.make_room.ensures.spare c.make_room.ensures.makes c.make_room.new.v refl).volume

pub returns-then-not-make_room-clause-event : goal.returns-then-not-make_room-clause-event
returns-then-not-make_room-clause-event g c = λ d volume. (
  room_alone g.D.Pm.state c.args.who c.args.op c.args.plan c.args.pages c.args.v.now c.make_room.new.v d volume
      c.requires.begins (c.requires.can d volume) (g.met.D.Pm.agree c.args.v.now.device) (g.met.D.Pm.agree c.make_room.new.v.device)
      c.make_room.ensures.device c.make_room.ensures.spare c.make_room.ensures.makes c.make_room.new.v refl,
  last g.D.Pm.state c.args.who c.args.op c.args.plan c.args.pages c.args.v.now c.make_room.new.v d volume
      c.requires.begins (c.requires.can d volume) (g.met.D.Pm.agree c.args.v.now.device) (g.met.D.Pm.agree c.make_room.new.v.device)
      c.make_room.ensures.device c.make_room.ensures.spare c.make_room.ensures.makes,
)

-- the volume with this set of free pages
with_free : {D F : Type 0} → Volume D F → FreePages → Volume D F
with_free v free = record { device = v.device; print = v.print; kept = v.kept; parts = record v.parts { free = free } }

pub returns-in_default-clause-agrees : goal.returns-in_default-clause-agrees
unfolding with_free
returns-in_default-clause-agrees g c =
    let found = running_disk g.D.Pm.state c.args.v.now c.requires.running c.requires.agrees in
    agrees_with found.0 (room_alone g.D.Pm.state c.args.who c.args.op c.args.plan c.args.pages c.args.v.now c.make_room.new.v found.0 found.1
    c.requires.begins (c.requires.can found.0 found.1) (g.met.D.Pm.agree c.args.v.now.device) (g.met.D.Pm.agree c.make_room.new.v.device)
    c.make_room.ensures.device c.make_room.ensures.spare c.make_room.ensures.makes (with_free c.make_room.new.v c.take_pages.new.free)
    (ap (with_free c.make_room.new.v) (c.in_default.ensures.no_memory refl))).volume

pub returns-in_default-clause-event : goal.returns-in_default-clause-event
unfolding with_free
returns-in_default-clause-event g c = λ d volume. (
  room_alone g.D.Pm.state c.args.who c.args.op c.args.plan c.args.pages c.args.v.now c.make_room.new.v d volume
      c.requires.begins (c.requires.can d volume) (g.met.D.Pm.agree c.args.v.now.device) (g.met.D.Pm.agree c.make_room.new.v.device)
      c.make_room.ensures.device c.make_room.ensures.spare c.make_room.ensures.makes (with_free c.make_room.new.v c.take_pages.new.free)
      (ap (with_free c.make_room.new.v) (c.in_default.ensures.no_memory refl)),
  last g.D.Pm.state c.args.who c.args.op c.args.plan c.args.pages c.args.v.now c.make_room.new.v d volume
      c.requires.begins (c.requires.can d volume) (g.met.D.Pm.agree c.args.v.now.device) (g.met.D.Pm.agree c.make_room.new.v.device)
      c.make_room.ensures.device c.make_room.ensures.spare c.make_room.ensures.makes,
)

pub start-requires-clause-held : goal.start-requires-clause-held
start-requires-clause-held g c =
    let long : c.len.result ≡ length c.args.plan.slots.items = omega (arith, c.len.ensures, c.args.plan.slots.ok.0) in
    let found = running_disk g.D.Pm.state c.args.v.now c.requires.running c.requires.agrees in
    held_inside g.D.Pm.state c.args.who c.args.op c.args.plan c.args.pages c.args.v.now c.make_room.new.v found.0 found.1
    c.requires.begins (c.requires.can found.0 found.1) (g.met.D.Pm.agree c.args.v.now.device) (g.met.D.Pm.agree c.make_room.new.v.device)
    c.make_room.ensures.device c.make_room.ensures.spare c.make_room.ensures.makes c.in-Ok.fresh.items c.take_pages.new.free
    c.in-Ok.ensures.taken c.in-Ok.ensures.count c.flight_of.result c.flight_of.ensures c.names_room-room.result
    (c.names_room-room.ensures ∙ ap (λ (n : ℕ). owed_names n c.args.pages) long)
    (c.make_room.ensures.room c.if-not-make_room.false) (c.make_room.ensures.units c.if-not-make_room.false)

pub start-requires-clause-few : goal.start-requires-clause-few
start-requires-clause-few g c =
    let found = running_disk g.D.Pm.state c.args.v.now c.requires.running c.requires.agrees in
    few found.0 c.args.v.now.parts (g.D.Pm.state c.args.v.now.device) found.1 c.args.op c.args.plan c.args.pages (c.requires.can found.0 found.1)
    c.in-Ok.fresh.items c.flight_of.result c.flight_of.ensures c.in-Ok.ensures.count

pub returns-clause-agrees : goal.returns-clause-agrees
returns-clause-agrees g c =
    let long : c.len.result ≡ length c.args.plan.slots.items = omega (arith, c.len.ensures, c.args.plan.slots.ok.0) in
    let found = running_disk g.D.Pm.state c.args.v.now c.requires.running c.requires.agrees in
    agrees_with found.0 (has_begun g.D.Pm.state c.args.who c.args.op c.args.plan c.args.pages c.args.v.now c.make_room.new.v found.0 found.1
    c.requires.begins (c.requires.can found.0 found.1) (g.met.D.Pm.agree c.args.v.now.device) (g.met.D.Pm.agree c.make_room.new.v.device)
    c.make_room.ensures.device c.make_room.ensures.spare c.make_room.ensures.makes c.in-Ok.fresh.items c.take_pages.new.free
    c.in-Ok.ensures.taken c.in-Ok.ensures.count c.flight_of.result c.flight_of.ensures c.names_room-room.result
    (c.names_room-room.ensures ∙ ap (λ (n : ℕ). owed_names n c.args.pages) long)
    (c.make_room.ensures.room c.if-not-make_room.false) (c.make_room.ensures.units c.if-not-make_room.false)
    (record { device = c.make_room.new.v.device; print = c.make_room.new.v.print; kept = c.make_room.new.v.kept; parts = c.start.new.parts }) refl c.start.ensures).volume

pub returns-clause-event : goal.returns-clause-event
returns-clause-event g c = λ d volume.
    let long : c.len.result ≡ length c.args.plan.slots.items = omega (arith, c.len.ensures, c.args.plan.slots.ok.0) in
    has_begun g.D.Pm.state c.args.who c.args.op c.args.plan c.args.pages c.args.v.now c.make_room.new.v d volume
    c.requires.begins (c.requires.can d volume) (g.met.D.Pm.agree c.args.v.now.device) (g.met.D.Pm.agree c.make_room.new.v.device)
    c.make_room.ensures.device c.make_room.ensures.spare c.make_room.ensures.makes c.in-Ok.fresh.items c.take_pages.new.free
    c.in-Ok.ensures.taken c.in-Ok.ensures.count c.flight_of.result c.flight_of.ensures c.names_room-room.result
    (c.names_room-room.ensures ∙ ap (λ (n : ℕ). owed_names n c.args.pages) long)
    (c.make_room.ensures.room c.if-not-make_room.false) (c.make_room.ensures.units c.if-not-make_room.false)
    (record { device = c.make_room.new.v.device; print = c.make_room.new.v.print; kept = c.make_room.new.v.kept; parts = c.start.new.parts }) refl c.start.ensures
