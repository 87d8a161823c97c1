use Rattle.std.proofs.Common.{◌∙◌, sym, ap}
use Rattle.std.specs.Prelude.{Some}
use Rattle.dn_volume.specs.declared.kind.FlightKind.TheVariants.{Write, Cut, Names}
use Rattle.dn_core.proofs.Served.{found, flies_as, goes_on, some_machine}
use Rattle.dn_core.proofs.stepping.advance_by.Goals as goal

pub advance_write-requires-clause-flies : goal.advance_write-requires-clause-flies
advance_write-requires-clause-flies g c =
    flies_as c.args.v.now.parts c.args.who c.requires.flies Write
    (λ f flies. sym (ap Some c.in-Some-Write.field-0-is) ∙ sym c.in-Some-Write.is ∙ c.kind_in_flight.ensures f flies)

pub advance_cut-requires-clause-flies : goal.advance_cut-requires-clause-flies
advance_cut-requires-clause-flies g c =
    flies_as c.args.v.now.parts c.args.who c.requires.flies Cut
    (λ f flies. sym (ap Some c.in-Some-Cut.field-0-is) ∙ sym c.in-Some-Cut.is ∙ c.kind_in_flight.ensures f flies)

pub advance_name-requires-clause-flies : goal.advance_name-requires-clause-flies
advance_name-requires-clause-flies g c =
    flies_as c.args.v.now.parts c.args.who c.requires.flies Names
    (λ f flies. sym (ap Some c.in-Some-Names.field-0-is) ∙ sym c.in-Some-Names.is ∙ c.kind_in_flight.ensures f flies)

pub unreachable-requires : goal.unreachable-requires
unreachable-requires g c =
    let f = found c.args.v.now.parts c.args.who c.requires.flies in
    some_machine g.D.Pm.state c.args.v.now c.requires.agrees c.requires.running c.args.who f.0 f.1
    (sym (c.kind_in_flight.ensures f.0 f.1) ∙ c.in-None.is)

pub returns-in-Some-Write-clause-event : goal.returns-in-Some-Write-clause-event
returns-in-Some-Write-clause-event g c d volume =
    goes_on g.D.Pm.state g.F.Fingerprint.print c.args.who c.args.v.now c.advance_write.new.v d c.advance_write.result c.requires.flies
    (λ f flies. c.advance_write.ensures.event d f volume flies)

pub returns-in-Some-Cut-clause-event : goal.returns-in-Some-Cut-clause-event
returns-in-Some-Cut-clause-event g c d volume =
    goes_on g.D.Pm.state g.F.Fingerprint.print c.args.who c.args.v.now c.advance_cut.new.v d c.advance_cut.result c.requires.flies
    (λ f flies. c.advance_cut.ensures.event d f volume flies)

pub returns-in-Some-Names-clause-event : goal.returns-in-Some-Names-clause-event
returns-in-Some-Names-clause-event g c d volume =
    goes_on g.D.Pm.state g.F.Fingerprint.print c.args.who c.args.v.now c.advance_name.new.v d c.advance_name.result c.requires.flies
    (λ f flies. c.advance_name.ensures.event d f volume flies)
