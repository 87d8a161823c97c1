use Rattle.std.proofs.Common.{◌+◌, refl, sym, subst, arith}
use Rattle.std.proofs.lemmas.List.Elements.{Contains-get_or}
use Rattle.dn_volume.specs.Agrees.{agrees_with}
use Rattle.dn_volume.proofs.Tables.{running_disk}
use Rattle.begin_steps.proofs.Answered.{has_all_last}
use Rattle.data_begins.specs.Asked.{IsAsked}
use Rattle.data_begins.specs.Ready.{IsReady}
use Rattle.data_begins.specs.declared.asks.DataAsk.{DataAsk}
use Rattle.size_ops.proofs.Flown.{ask, is_ask, sound, from_few, flown, takes_first, long, slots_long, fresh_few, runs_few}
use Rattle.size_ops.proofs.Readied.{untouched_ready, few, fits_room, held_inside, has_begun}
use Rattle.size_ops.proofs.begin.open_cut.Goals as goal

pub ask_of-ask-requires-clause-few : goal.ask_of-ask-requires-clause-few
ask_of-ask-requires-clause-few g c =
    let found = running_disk g.D.Pm.state c.args.v.now c.requires.running c.requires.agrees in
    let ok = sound found.0 c.args.op c.args.cut.now.ino c.args.cut.now (c.requires.plan found.0 found.1) in omega (arith, ok.few, ok.few_more)

pub ask_of-ask-requires-clause-from : goal.ask_of-ask-requires-clause-from
ask_of-ask-requires-clause-from g c =
    let found = running_disk g.D.Pm.state c.args.v.now c.requires.running c.requires.agrees in
    from_few found.0 c.args.op c.args.cut.now.ino c.args.cut.now (c.requires.plan found.0 found.1)

pub overflow_add-cut : goal.overflow_add-cut
overflow_add-cut g c =
    let found = running_disk g.D.Pm.state c.args.v.now c.requires.running c.requires.agrees in
    let ok = sound found.0 c.args.op c.args.cut.now.ino c.args.cut.now (c.requires.plan found.0 found.1) in omega (arith, ok.few)

pub make_ready-requires-clause-asks : goal.make_ready-requires-clause-asks
make_ready-requires-clause-asks g c = λ d v.
    let plan = c.requires.plan d v in
    subst (IsAsked d) (sym c.ask_of-ask.ensures) (record {
      op = c.args.op;
      is = is_ask d c.args.op c.args.cut.now.ino c.args.cut.now plan c.args.v.now.parts (g.D.Pm.state c.args.v.now.device) v;
    })

pub make_ready-requires-clause-places : goal.make_ready-requires-clause-places
make_ready-requires-clause-places g c =
    let found = running_disk g.D.Pm.state c.args.v.now c.requires.running c.requires.agrees in
    let ok = sound found.0 c.args.op c.args.cut.now.ino c.args.cut.now (c.requires.plan found.0 found.1) in omega (arith, ok.few)

pub make_ready-requires-clause-slots : goal.make_ready-requires-clause-slots
make_ready-requires-clause-slots g c =
    let found = running_disk g.D.Pm.state c.args.v.now c.requires.running c.requires.agrees in
    let ok = sound found.0 c.args.op c.args.cut.now.ino c.args.cut.now (c.requires.plan found.0 found.1) in omega (arith, ok.few)

pub take_for_cut-requires-clause-sound : goal.take_for_cut-requires-clause-sound
take_for_cut-requires-clause-sound g c =
    let found = running_disk g.D.Pm.state c.args.v.now c.requires.running c.requires.agrees in
    sound found.0 c.args.op c.args.cut.now.ino c.args.cut.now (c.requires.plan found.0 found.1)

pub returns-in_default-clause-agrees : goal.returns-in_default-clause-agrees
returns-in_default-clause-agrees g c =
    let S = g.D.Pm.state in
    let v0 = c.args.v.now in
    let v1 = c.make_ready.new.v in
    let only = c.make_ready.ensures.makes in
    let agree = g.met.D.Pm.agree v0.device in
    let found = running_disk S v0 c.requires.running c.requires.agrees in
    agrees_with found.0 (untouched_ready S v0 v1 found.0 found.1 agree only v1.parts.free refl).volume

pub returns-in_default-clause-event : goal.returns-in_default-clause-event
returns-in_default-clause-event g c =
    let S = g.D.Pm.state in
    let v0 = c.args.v.now in
    let v1 = c.make_ready.new.v in
    let only = c.make_ready.ensures.makes in
    let agree = g.met.D.Pm.agree v0.device in
    λ d v. (untouched_ready S v0 v1 d v agree only v1.parts.free refl, has_all_last d v0.parts c.args.op (c.requires.has d v))

pub returns-in_default-take_for_cut-clause-agrees : goal.returns-in_default-take_for_cut-clause-agrees
returns-in_default-take_for_cut-clause-agrees g c =
    let S = g.D.Pm.state in
    let v0 = c.args.v.now in
    let v1 = c.make_ready.new.v in
    let only = c.make_ready.ensures.makes in
    let agree = g.met.D.Pm.agree v0.device in
    let found = running_disk S v0 c.requires.running c.requires.agrees in
    agrees_with found.0 (untouched_ready S v0 v1 found.0 found.1 agree only c.take_for_cut.new.free
    (c.in_default-take_for_cut.ensures.no_memory refl)).volume

pub returns-in_default-take_for_cut-clause-event : goal.returns-in_default-take_for_cut-clause-event
returns-in_default-take_for_cut-clause-event g c =
    let S = g.D.Pm.state in
    let v0 = c.args.v.now in
    let v1 = c.make_ready.new.v in
    let only = c.make_ready.ensures.makes in
    let agree = g.met.D.Pm.agree v0.device in
    λ d v. (
      untouched_ready S v0 v1 d v agree only c.take_for_cut.new.free (c.in_default-take_for_cut.ensures.no_memory refl),
      has_all_last d v0.parts c.args.op (c.requires.has d v),
    )

pub start_data-left-requires-clause-held : goal.start_data-left-requires-clause-held
start_data-left-requires-clause-held g c =
    let S = g.D.Pm.state in
    let v0 = c.args.v.now in
    let v1 = c.make_ready.new.v in
    let only = c.make_ready.ensures.makes in
    let agree = g.met.D.Pm.agree v0.device in
    let found = running_disk S v0 c.requires.running c.requires.agrees in
    let cut = c.args.cut.now in
    let ready = c.in-Some.ready in
    let is_ready = subst (λ (a : DataAsk). IsReady S a cut.pages (cut.pages + 1) v0 v1 ready) c.ask_of-ask.ensures c.in-Some.ensures.ready in
    let wp = c.in-Ok.plan in
    let free = c.take_for_cut.new.free in
    let takes = c.in-Ok.ensures.plan in
    let plan = c.requires.plan found.0 found.1 in
    let v1_is = (untouched_ready S v0 v1 found.0 found.1 agree only v1.parts.free refl).volume in
    let asks = is_ask found.0 c.args.op cut.ino cut plan v0.parts (S v0.device) found.1 in
    let rows = is_ready.rows found.0 found.1 in
    let ok = sound found.0 c.args.op cut.ino cut plan in
    λ k other lt. held_inside S v0 v1 found.0 found.1 agree only c.args.who c.args.op (ask found.0 c.args.op cut.ino cut plan) asks
    (c.requires.has found.0 found.1)
    c.requires.begins cut.pages (cut.pages + 1) ready is_ready (omega (arith, ok.few)) (omega (arith, ok.few)) free wp
    (takes_first found.0 c.args.op cut.ino cut plan v1.parts (S v1.device) v1_is c.args.who free ready wp takes is_ready.held rows)
    (long found.0 c.args.op cut.ino cut plan v1.parts (S v1.device) v1_is c.args.who free ready wp takes is_ready.held rows)
    (omega (arith, slots_long found.0 c.args.op cut.ino cut plan v1.parts (S v1.device) v1_is c.args.who free ready wp takes is_ready.held rows))
    (fresh_few found.0 c.args.op cut.ino cut plan v1.parts (S v1.device) v1_is c.args.who free ready wp takes is_ready.held rows)
    (runs_few found.0 c.args.op cut.ino cut plan v1.parts (S v1.device) v1_is c.args.who free ready wp takes is_ready.held rows)
    _ (Contains-get_or ready.held.items k other lt)

pub start_data-left-requires-clause-few : goal.start_data-left-requires-clause-few
start_data-left-requires-clause-few g c =
    let S = g.D.Pm.state in
    let v0 = c.args.v.now in
    let v1 = c.make_ready.new.v in
    let only = c.make_ready.ensures.makes in
    let agree = g.met.D.Pm.agree v0.device in
    let found = running_disk S v0 c.requires.running c.requires.agrees in
    let cut = c.args.cut.now in
    let ready = c.in-Some.ready in
    let is_ready = subst (λ (a : DataAsk). IsReady S a cut.pages (cut.pages + 1) v0 v1 ready) c.ask_of-ask.ensures c.in-Some.ensures.ready in
    let wp = c.in-Ok.plan in
    let free = c.take_for_cut.new.free in
    let takes = c.in-Ok.ensures.plan in
    let plan = c.requires.plan found.0 found.1 in
    let v1_is = (untouched_ready S v0 v1 found.0 found.1 agree only v1.parts.free refl).volume in
    let asks = is_ask found.0 c.args.op cut.ino cut plan v0.parts (S v0.device) found.1 in
    let rows = is_ready.rows found.0 found.1 in
    let ok = sound found.0 c.args.op cut.ino cut plan in
    few S v0 v1 found.0 found.1 agree only c.args.who c.args.op (ask found.0 c.args.op cut.ino cut plan) asks (c.requires.has found.0 found.1)
    c.requires.begins cut.pages (cut.pages + 1) ready is_ready (omega (arith, ok.few)) (omega (arith, ok.few)) free wp
    (takes_first found.0 c.args.op cut.ino cut plan v1.parts (S v1.device) v1_is c.args.who free ready wp takes is_ready.held rows)
    (long found.0 c.args.op cut.ino cut plan v1.parts (S v1.device) v1_is c.args.who free ready wp takes is_ready.held rows)
    (omega (arith, slots_long found.0 c.args.op cut.ino cut plan v1.parts (S v1.device) v1_is c.args.who free ready wp takes is_ready.held rows))
    (fresh_few found.0 c.args.op cut.ino cut plan v1.parts (S v1.device) v1_is c.args.who free ready wp takes is_ready.held rows)
    (runs_few found.0 c.args.op cut.ino cut plan v1.parts (S v1.device) v1_is c.args.who free ready wp takes is_ready.held rows)

pub start_data-left-requires-clause-fits : goal.start_data-left-requires-clause-fits
start_data-left-requires-clause-fits g c =
    let S = g.D.Pm.state in
    let v0 = c.args.v.now in
    let v1 = c.make_ready.new.v in
    let only = c.make_ready.ensures.makes in
    let agree = g.met.D.Pm.agree v0.device in
    let found = running_disk S v0 c.requires.running c.requires.agrees in
    let cut = c.args.cut.now in
    let ready = c.in-Some.ready in
    let is_ready = subst (λ (a : DataAsk). IsReady S a cut.pages (cut.pages + 1) v0 v1 ready) c.ask_of-ask.ensures c.in-Some.ensures.ready in
    let wp = c.in-Ok.plan in
    let free = c.take_for_cut.new.free in
    let takes = c.in-Ok.ensures.plan in
    let plan = c.requires.plan found.0 found.1 in
    let v1_is = (untouched_ready S v0 v1 found.0 found.1 agree only v1.parts.free refl).volume in
    let asks = is_ask found.0 c.args.op cut.ino cut plan v0.parts (S v0.device) found.1 in
    let rows = is_ready.rows found.0 found.1 in
    let ok = sound found.0 c.args.op cut.ino cut plan in
    fits_room S v0 v1 found.0 found.1 agree only c.args.who c.args.op (ask found.0 c.args.op cut.ino cut plan) asks (c.requires.has found.0 found.1)
    c.requires.begins cut.pages (cut.pages + 1) ready is_ready (omega (arith, ok.few)) (omega (arith, ok.few)) free wp
    (takes_first found.0 c.args.op cut.ino cut plan v1.parts (S v1.device) v1_is c.args.who free ready wp takes is_ready.held rows)
    (long found.0 c.args.op cut.ino cut plan v1.parts (S v1.device) v1_is c.args.who free ready wp takes is_ready.held rows)
    (omega (arith, slots_long found.0 c.args.op cut.ino cut plan v1.parts (S v1.device) v1_is c.args.who free ready wp takes is_ready.held rows))
    (fresh_few found.0 c.args.op cut.ino cut plan v1.parts (S v1.device) v1_is c.args.who free ready wp takes is_ready.held rows)
    (runs_few found.0 c.args.op cut.ino cut plan v1.parts (S v1.device) v1_is c.args.who free ready wp takes is_ready.held rows)

pub returns-clause-agrees : goal.returns-clause-agrees
returns-clause-agrees g c =
    let S = g.D.Pm.state in
    let v0 = c.args.v.now in
    let v1 = c.make_ready.new.v in
    let only = c.make_ready.ensures.makes in
    let agree = g.met.D.Pm.agree v0.device in
    let found = running_disk S v0 c.requires.running c.requires.agrees in
    let cut = c.args.cut.now in
    let ready = c.in-Some.ready in
    let is_ready = subst (λ (a : DataAsk). IsReady S a cut.pages (cut.pages + 1) v0 v1 ready) c.ask_of-ask.ensures c.in-Some.ensures.ready in
    let wp = c.in-Ok.plan in
    let free = c.take_for_cut.new.free in
    let takes = c.in-Ok.ensures.plan in
    let plan = c.requires.plan found.0 found.1 in
    let v1_is = (untouched_ready S v0 v1 found.0 found.1 agree only v1.parts.free refl).volume in
    let asks = is_ask found.0 c.args.op cut.ino cut plan v0.parts (S v0.device) found.1 in
    let rows = is_ready.rows found.0 found.1 in
    let ok = sound found.0 c.args.op cut.ino cut plan in
    agrees_with _ (has_begun S v0 v1 found.0 found.1 agree only c.args.who c.args.op (ask found.0 c.args.op cut.ino cut plan) asks
    (c.requires.has found.0 found.1)
    c.requires.begins cut.pages (cut.pages + 1) ready is_ready (omega (arith, ok.few)) (omega (arith, ok.few)) free wp
    (takes_first found.0 c.args.op cut.ino cut plan v1.parts (S v1.device) v1_is c.args.who free ready wp takes is_ready.held rows)
    (long found.0 c.args.op cut.ino cut plan v1.parts (S v1.device) v1_is c.args.who free ready wp takes is_ready.held rows)
    (omega (arith, slots_long found.0 c.args.op cut.ino cut plan v1.parts (S v1.device) v1_is c.args.who free ready wp takes is_ready.held rows))
    (fresh_few found.0 c.args.op cut.ino cut plan v1.parts (S v1.device) v1_is c.args.who free ready wp takes is_ready.held rows)
    (runs_few found.0 c.args.op cut.ino cut plan v1.parts (S v1.device) v1_is c.args.who free ready wp takes is_ready.held rows)
    (record { device = v1.device; print = v1.print; kept = v1.kept; parts = c.start_data-left.new.parts }) c.start_data-left.result refl (g.met.D.Pm.agree v1.device)
    (flown found.0 c.args.op cut.ino cut plan v1.parts (S v1.device) v1_is c.args.who free ready wp takes is_ready.held rows)
    c.start_data-left.ensures.starts c.start_data-left.ensures.left).volume

pub returns-clause-event : goal.returns-clause-event
returns-clause-event g c =
    let S = g.D.Pm.state in
    let v0 = c.args.v.now in
    let v1 = c.make_ready.new.v in
    let only = c.make_ready.ensures.makes in
    let agree = g.met.D.Pm.agree v0.device in
    let cut = c.args.cut.now in
    let ready = c.in-Some.ready in
    let is_ready = subst (λ (a : DataAsk). IsReady S a cut.pages (cut.pages + 1) v0 v1 ready) c.ask_of-ask.ensures c.in-Some.ensures.ready in
    let wp = c.in-Ok.plan in
    let free = c.take_for_cut.new.free in
    let takes = c.in-Ok.ensures.plan in
    λ d v.
    let plan = c.requires.plan d v in
    let v1_is = (untouched_ready S v0 v1 d v agree only v1.parts.free refl).volume in
    let asks = is_ask d c.args.op cut.ino cut plan v0.parts (S v0.device) v in
    let rows = is_ready.rows d v in
    let ok = sound d c.args.op cut.ino cut plan in
    has_begun S v0 v1 d v agree only c.args.who c.args.op (ask d c.args.op cut.ino cut plan) asks (c.requires.has d v)
    c.requires.begins cut.pages (cut.pages + 1) ready is_ready (omega (arith, ok.few)) (omega (arith, ok.few)) free wp
    (takes_first d c.args.op cut.ino cut plan v1.parts (S v1.device) v1_is c.args.who free ready wp takes is_ready.held rows)
    (long d c.args.op cut.ino cut plan v1.parts (S v1.device) v1_is c.args.who free ready wp takes is_ready.held rows)
    (omega (arith, slots_long d c.args.op cut.ino cut plan v1.parts (S v1.device) v1_is c.args.who free ready wp takes is_ready.held rows))
    (fresh_few d c.args.op cut.ino cut plan v1.parts (S v1.device) v1_is c.args.who free ready wp takes is_ready.held rows)
    (runs_few d c.args.op cut.ino cut plan v1.parts (S v1.device) v1_is c.args.who free ready wp takes is_ready.held rows)
    (record { device = v1.device; print = v1.print; kept = v1.kept; parts = c.start_data-left.new.parts }) c.start_data-left.result refl (g.met.D.Pm.agree v1.device)
    (flown d c.args.op cut.ino cut plan v1.parts (S v1.device) v1_is c.args.who free ready wp takes is_ready.held rows)
    c.start_data-left.ensures.starts c.start_data-left.ensures.left
