use Rattle.std.proofs.Common.{sym, ◌∙◌}
use Rattle.dn_volume.proofs.Tables.{running_disk}
use Rattle.name_ops.proofs.Listed.{changes_names}
use Rattle.name_ops.proofs.names.advance_name.Goals as goal

pub is_prepared-requires : goal.is_prepared-requires
is_prepared-requires g c =
    let S = g.D.Pm.state in
    let found = running_disk S c.args.v.now c.requires.running c.requires.agrees in
    let is = c.requires.flies in
    let names = changes_names found.0 c.args.v.now.parts (S c.args.v.now.device) found.1 c.args.who is.flight is.flies is.kind in
    record { flight = is.flight; change = names.0; flies = is.flies; change_is = names.1 }

pub commit_names-requires-clause-next : goal.commit_names-requires-clause-next
commit_names-requires-clause-next g c =
    let S = g.D.Pm.state in
    let found = running_disk S c.args.v.now c.requires.running c.requires.agrees in
    let is = c.requires.flies in
    let names = changes_names found.0 c.args.v.now.parts (S c.args.v.now.device) found.1 c.args.who is.flight is.flies is.kind in
    record {
      flight = is.flight;
      change = names.0;
      is = record {
        flies = is.flies;
        change_is = names.1;
        prepared = sym (c.is_prepared.ensures is.flight names.0 is.flies names.1) ∙
            c.if-is_prepared.true;
      };
      kind = is.kind;
    }

pub prepare_names-requires-clause-next : goal.prepare_names-requires-clause-next
prepare_names-requires-clause-next g c =
    let S = g.D.Pm.state in
    let found = running_disk S c.args.v.now c.requires.running c.requires.agrees in
    let is = c.requires.flies in
    let names = changes_names found.0 c.args.v.now.parts (S c.args.v.now.device) found.1 c.args.who is.flight is.flies is.kind in
    record {
      flight = is.flight;
      change = names.0;
      is = record {
        flies = is.flies;
        change_is = names.1;
        unprepared = sym (c.is_prepared.ensures is.flight names.0 is.flies names.1) ∙
            c.if-is_prepared.false;
      };
    }
