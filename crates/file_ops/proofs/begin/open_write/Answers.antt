use Rattle.std.proofs.Common.{◌≡◌, ◌<◌, length, ℕ, refl, sym, ◌∙◌, ap, subst}
use Rattle.page_alloc.specs.Free.{FreePages}
use Rattle.dn_model.specs.declared.op.Op.TheVariants.{Write}
use Rattle.dn_volume.specs.Agrees.{agrees_with}
use Rattle.dn_volume.proofs.Tables.{running_disk}
use Rattle.begin_steps.proofs.Answered.{has_all_last}
use Rattle.data_begins.specs.Ready.{IsReady}
use Rattle.data_begins.proofs.LiveFiles.{tail_within, node_at, file_is}
use Rattle.file_ops.proofs.WriteOpened.{volume1, untouched1, untouched2, size_at, room_at, all_inside, is_few, room_for, has_begun}
use Rattle.file_ops.proofs.begin.open_write.Goals as goal

pub returns-in_default-make_ready-clause-agrees : goal.returns-in_default-make_ready-clause-agrees
returns-in_default-make_ready-clause-agrees g c =
    let S = g.D.Pm.state in
    let found = running_disk S c.args.v.now c.requires.running c.requires.agrees in
    agrees_with found.0 (volume1 S c.args.v.now c.make_ready.new.v found.0 found.1 (g.met.D.Pm.agree c.args.v.now.device) c.make_ready.ensures.makes)

pub returns-in_default-make_ready-clause-event : goal.returns-in_default-make_ready-clause-event
returns-in_default-make_ready-clause-event g c = λ d volume. (
  untouched1 g.D.Pm.state c.args.v.now c.make_ready.new.v d volume (g.met.D.Pm.agree c.args.v.now.device) c.make_ready.ensures.makes,
  has_all_last d c.args.v.now.parts c.args.op (c.requires.has d volume),
)

pub load-requires : goal.load-requires
load-requires g c =
    let S = g.D.Pm.state in
    let found = running_disk S c.args.v.now c.requires.running c.requires.agrees in
    let is = c.requires.asks found.0 found.1 in
    let v1 = c.make_ready.new.v in
    let vol1 = volume1 S c.args.v.now v1 found.0 found.1 (g.met.D.Pm.agree c.args.v.now.device) c.make_ready.ensures.makes in
    subst (λ (a : ℕ). a < length (S v1.device).now) (sym c.inode_word.ensures)
    (tail_within found.0 v1.parts (S v1.device) vol1 c.args.ask.now.ino is.file)

pub plan_write-requires-clause-small : goal.plan_write-requires-clause-small
plan_write-requires-clause-small g c =
    let S = g.D.Pm.state in
    let found = running_disk S c.args.v.now c.requires.running c.requires.agrees in
    let is = c.requires.asks found.0 found.1 in
    let v1 = c.make_ready.new.v in
    let vol1 = volume1 S c.args.v.now v1 found.0 found.1 (g.met.D.Pm.agree c.args.v.now.device) c.make_ready.ensures.makes in
    let node = c.index.result.now in
    (file_is found.0 v1.parts (S v1.device) vol1 c.args.ask.now.ino is.file node
    (node_at found.0 v1.parts (S v1.device) vol1 c.args.ask.now.ino is.file node c.index.ensures)).small

pub start_data-requires-clause-held : goal.start_data-requires-clause-held
start_data-requires-clause-held g c =
    let S = g.D.Pm.state in
    let found = running_disk S c.args.v.now c.requires.running c.requires.agrees in
    let d = found.0 in
    let volume = found.1 in
    let v1 = c.make_ready.new.v in
    let text = c.bytes.result.now in
    let at = c.in-Write.at in
    let op_is : c.args.op ≡ Write c.in-Write.name at text = c.in-Write.is ∙ ap (Write c.in-Write.name at) (sym c.bytes.ensures) in
    let is = c.requires.asks d volume in
    let has = c.requires.has d volume in
    let rdy = subst (λ (n : ℕ). IsReady S c.args.ask.now n n c.args.v.now v1 c.in-Some.ready) c.places_of-places.ensures c.in-Some.ensures.ready in
    let agree = g.met.D.Pm.agree c.args.v.now.device in
    let only = c.make_ready.ensures.makes in
    all_inside S c.args.v.now v1 d volume agree only c.args.op c.in-Write.name at text op_is c.args.ask.now is c.args.who c.requires.begins has
    c.in-Some.ready
    rdy

pub start_data-requires-clause-few : goal.start_data-requires-clause-few
start_data-requires-clause-few g c =
    let S = g.D.Pm.state in
    let found = running_disk S c.args.v.now c.requires.running c.requires.agrees in
    let d = found.0 in
    let volume = found.1 in
    let v1 = c.make_ready.new.v in
    let text = c.bytes.result.now in
    let at = c.in-Write.at in
    let op_is : c.args.op ≡ Write c.in-Write.name at text = c.in-Write.is ∙ ap (Write c.in-Write.name at) (sym c.bytes.ensures) in
    let is = c.requires.asks d volume in
    let has = c.requires.has d volume in
    let rdy = subst (λ (n : ℕ). IsReady S c.args.ask.now n n c.args.v.now v1 c.in-Some.ready) c.places_of-places.ensures c.in-Some.ensures.ready in
    let agree = g.met.D.Pm.agree c.args.v.now.device in
    let only = c.make_ready.ensures.makes in
    let size_is = size_at S c.args.v.now v1 d volume agree only c.args.op c.in-Write.name at text op_is c.args.ask.now is c.args.who
    c.requires.begins has
    c.in-Some.ready rdy c.index.result.now c.index.ensures in
    let room_is = room_at S c.args.v.now v1 d volume agree only c.args.op c.in-Write.name at text op_is c.args.ask.now is c.args.who c.requires.begins
    has c.in-Some.ready rdy c.load.result c.room_of-room.result c.inode_word.result c.inode_word.ensures c.load.ensures c.room_of-room.ensures.room in
    is_few S c.args.v.now v1 d volume agree only c.args.op c.in-Write.name at text op_is c.args.ask.now is c.args.who c.requires.begins has
    c.in-Some.ready
    rdy c.index.result.now.size c.room_of-room.result size_is room_is c.plan_write.new.free c.in-Ok.plan c.in-Ok.ensures.plan

pub start_data-requires-clause-fits : goal.start_data-requires-clause-fits
start_data-requires-clause-fits g c =
    let S = g.D.Pm.state in
    let found = running_disk S c.args.v.now c.requires.running c.requires.agrees in
    let d = found.0 in
    let volume = found.1 in
    let v1 = c.make_ready.new.v in
    let text = c.bytes.result.now in
    let at = c.in-Write.at in
    let op_is : c.args.op ≡ Write c.in-Write.name at text = c.in-Write.is ∙ ap (Write c.in-Write.name at) (sym c.bytes.ensures) in
    let is = c.requires.asks d volume in
    let has = c.requires.has d volume in
    let rdy = subst (λ (n : ℕ). IsReady S c.args.ask.now n n c.args.v.now v1 c.in-Some.ready) c.places_of-places.ensures c.in-Some.ensures.ready in
    let agree = g.met.D.Pm.agree c.args.v.now.device in
    let only = c.make_ready.ensures.makes in
    let size_is = size_at S c.args.v.now v1 d volume agree only c.args.op c.in-Write.name at text op_is c.args.ask.now is c.args.who
    c.requires.begins has
    c.in-Some.ready rdy c.index.result.now c.index.ensures in
    let room_is = room_at S c.args.v.now v1 d volume agree only c.args.op c.in-Write.name at text op_is c.args.ask.now is c.args.who c.requires.begins
    has c.in-Some.ready rdy c.load.result c.room_of-room.result c.inode_word.result c.inode_word.ensures c.load.ensures c.room_of-room.ensures.room in
    (room_for S c.args.v.now v1 d volume agree only c.args.op c.in-Write.name at text op_is c.args.ask.now is c.args.who c.requires.begins has
    c.in-Some.ready
    rdy c.index.result.now.size c.room_of-room.result size_is room_is c.plan_write.new.free c.in-Ok.plan c.in-Ok.ensures.plan).fits

pub returns-in-Ok-clause-agrees : goal.returns-in-Ok-clause-agrees
returns-in-Ok-clause-agrees g c =
    let S = g.D.Pm.state in
    let found = running_disk S c.args.v.now c.requires.running c.requires.agrees in
    let d = found.0 in
    let volume = found.1 in
    let v1 = c.make_ready.new.v in
    let text = c.bytes.result.now in
    let at = c.in-Write.at in
    let op_is : c.args.op ≡ Write c.in-Write.name at text = c.in-Write.is ∙ ap (Write c.in-Write.name at) (sym c.bytes.ensures) in
    let is = c.requires.asks d volume in
    let has = c.requires.has d volume in
    let rdy = subst (λ (n : ℕ). IsReady S c.args.ask.now n n c.args.v.now v1 c.in-Some.ready) c.places_of-places.ensures c.in-Some.ensures.ready in
    let agree = g.met.D.Pm.agree c.args.v.now.device in
    let only = c.make_ready.ensures.makes in
    let size_is = size_at S c.args.v.now v1 d volume agree only c.args.op c.in-Write.name at text op_is c.args.ask.now is c.args.who
    c.requires.begins has
    c.in-Some.ready rdy c.index.result.now c.index.ensures in
    let room_is = room_at S c.args.v.now v1 d volume agree only c.args.op c.in-Write.name at text op_is c.args.ask.now is c.args.who c.requires.begins
    has c.in-Some.ready rdy c.load.result c.room_of-room.result c.inode_word.result c.inode_word.ensures c.load.ensures c.room_of-room.ensures.room in
    agrees_with d (has_begun S c.args.v.now v1 d volume agree only c.args.op c.in-Write.name at text op_is c.args.ask.now is c.args.who
    c.requires.begins has c.in-Some.ready
    rdy c.index.result.now.size c.room_of-room.result size_is room_is c.plan_write.new.free c.in-Ok.plan c.in-Ok.ensures.plan
    (record { device = v1.device; print = v1.print; kept = v1.kept; parts = c.start_data.new.parts }) refl
    (g.met.D.Pm.agree v1.device) c.start_data.ensures.starts c.start_data.result
    c.start_data.ensures.left).volume

pub returns-in-Ok-clause-event : goal.returns-in-Ok-clause-event
returns-in-Ok-clause-event g c = λ d volume.
    let S = g.D.Pm.state in
    let v1 = c.make_ready.new.v in
    let text = c.bytes.result.now in
    let at = c.in-Write.at in
    let op_is : c.args.op ≡ Write c.in-Write.name at text = c.in-Write.is ∙ ap (Write c.in-Write.name at) (sym c.bytes.ensures) in
    let is = c.requires.asks d volume in
    let has = c.requires.has d volume in
    let rdy = subst (λ (n : ℕ). IsReady S c.args.ask.now n n c.args.v.now v1 c.in-Some.ready) c.places_of-places.ensures c.in-Some.ensures.ready in
    let agree = g.met.D.Pm.agree c.args.v.now.device in
    let only = c.make_ready.ensures.makes in
    let size_is = size_at S c.args.v.now v1 d volume agree only c.args.op c.in-Write.name at text op_is c.args.ask.now is c.args.who
    c.requires.begins has
    c.in-Some.ready rdy c.index.result.now c.index.ensures in
    let room_is = room_at S c.args.v.now v1 d volume agree only c.args.op c.in-Write.name at text op_is c.args.ask.now is c.args.who c.requires.begins
    has c.in-Some.ready rdy c.load.result c.room_of-room.result c.inode_word.result c.inode_word.ensures c.load.ensures c.room_of-room.ensures.room in
    has_begun S c.args.v.now v1 d volume agree only c.args.op c.in-Write.name at text op_is c.args.ask.now is c.args.who c.requires.begins has
    c.in-Some.ready
    rdy c.index.result.now.size c.room_of-room.result size_is room_is c.plan_write.new.free c.in-Ok.plan c.in-Ok.ensures.plan
    (record { device = v1.device; print = v1.print; kept = v1.kept; parts = c.start_data.new.parts }) refl
    (g.met.D.Pm.agree v1.device) c.start_data.ensures.starts c.start_data.result
    c.start_data.ensures.left

pub returns-in-Err-clause-agrees : goal.returns-in-Err-clause-agrees
returns-in-Err-clause-agrees g c =
    let S = g.D.Pm.state in
    let found = running_disk S c.args.v.now c.requires.running c.requires.agrees in
    let d = found.0 in
    let volume = found.1 in
    let v1 = c.make_ready.new.v in
    agrees_with d (untouched2 S c.args.v.now v1 d volume (g.met.D.Pm.agree c.args.v.now.device) c.make_ready.ensures.makes
    (record { device = v1.device; print = v1.print; kept = v1.kept; parts = record v1.parts { free = c.plan_write.new.free } }) refl
    (ap (λ (x : FreePages). record v1.parts { free = x }) (c.in-Err.ensures.no_memory refl))).volume

pub returns-in-Err-clause-event : goal.returns-in-Err-clause-event
returns-in-Err-clause-event g c = λ d volume.
    let S = g.D.Pm.state in
    let v1 = c.make_ready.new.v in (
      untouched2 S c.args.v.now v1 d volume (g.met.D.Pm.agree c.args.v.now.device) c.make_ready.ensures.makes
          (record { device = v1.device; print = v1.print; kept = v1.kept; parts = record v1.parts { free = c.plan_write.new.free } }) refl
          (ap (λ (x : FreePages). record v1.parts { free = x }) (c.in-Err.ensures.no_memory refl)),
      has_all_last d c.args.v.now.parts c.args.op (c.requires.has d volume),
    )
