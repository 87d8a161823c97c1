use Rattle.std.proofs.Common.{◌≤◌, length, sym, ◌∙◌}
use Rattle.law_names.proofs.AllWords.{disk_shut}
use Rattle.dn_volume.specs.Agrees.{agrees_with, is_stopped}
use Rattle.dn_volume.proofs.Tables.{running_disk}
use Rattle.log_clean.proofs.Begun.{of_some, begun_works, err_is}
use Rattle.log_clean.proofs.FinishedPages.{live_used, pages_small, slots_fit}
use Rattle.log_clean.proofs.FinishedWalk.{used_can_give, used_leads}
use Rattle.log_clean.proofs.FinishedEnds.{ends_taken, finish_breaks, finish_moves, finish_works}
use Rattle.log_clean.proofs.finish.finish_cleaning.Goals as goal

pub give_back_log-requires-clause-can : goal.give_back_log-requires-clause-can
give_back_log-requires-clause-can g c =
    let S = g.D.Pm.state in
    let found = running_disk S c.args.v.now c.requires.running c.requires.agrees in
    let C = c.in-Some.cleaning in
    let cleans = sym c.take.ensures.value ∙ c.in-Some.is in
    used_can_give found.0 c.args.v.now.parts (S c.args.v.now.device) found.1 C.ino (found.1.cleaning C cleans).in_table
    (live_used found.0 c.args.v.now.parts (S c.args.v.now.device) C found.1 cleans)

pub replace-requires-clause-shut : goal.replace-requires-clause-shut
replace-requires-clause-shut g c =
    let S = g.D.Pm.state in
    let found = running_disk S c.args.v.now c.requires.running c.requires.agrees in
    disk_shut found.0 (S c.args.v.now.device) found.1.fast.stands

pub replace-requires-clause-small : goal.replace-requires-clause-small
replace-requires-clause-small g c =
    let S = g.D.Pm.state in
    let found = running_disk S c.args.v.now c.requires.running c.requires.agrees in
    pages_small found.0 c.args.v.now.parts (S c.args.v.now.device) c.in-Some.cleaning found.1 (sym c.take.ensures.value ∙ c.in-Some.is)

pub replace-requires-clause-fits : goal.replace-requires-clause-fits
replace-requires-clause-fits g c =
    let S = g.D.Pm.state in
    let found = running_disk S c.args.v.now c.requires.running c.requires.agrees in
    slots_fit found.0 c.args.v.now.parts (S c.args.v.now.device) c.in-Some.cleaning found.1 (sym c.take.ensures.value ∙ c.in-Some.is)

pub returns-in-Ok-clause-agrees : goal.returns-in-Ok-clause-agrees
returns-in-Ok-clause-agrees g c =
    let S = g.D.Pm.state in
    let B = c.args.v.now.parts in
    let C = c.in-Some.cleaning in
    let cleans = sym c.take.ensures.value ∙ c.in-Some.is in
    let found = running_disk S c.args.v.now c.requires.running c.requires.agrees in
    let leads = used_leads found.0 B (S c.args.v.now.device) found.1 C.ino (found.1.cleaning C cleans).in_table
    (live_used found.0 B (S c.args.v.now.device) C found.1 cleans) in
    let moves = finish_moves S c.args.v.now C cleans
    (of_some B.reclaiming.cleaning C (λ x. length x.pages.items ≤ x.written) cleans c.requires.written) g.F.Fingerprint.print found.0 found.1
    (record { device = c.replace.new.device; print = c.args.v.now.print; kept = c.args.v.now.kept; parts = c.note_end.new.parts })
    (record {
      any_moment = c.replace.ensures.any_moment;
      only = c.replace.ensures.only;
      others = c.replace.ensures.others;
      spare = c.replace.ensures.spare;
      faults = c.replace.ensures.faults;
    })
    (record { done = c.in-Ok.ensures.done; settles = c.in-Ok.ensures.settles }) c.give_back_log.new.free
    (c.give_back_log.ensures.gives (found.0.inode C.ino).log.pages leads) (c.give_back_log.ensures.counted (found.0.inode C.ino).log.pages leads)
    (ends_taken B c.give_back_log.new.free c.take.new.self C c.note_end.new.parts c.take.ensures.after c.note_end.ensures) in
    agrees_with moves.after moves.moves.volume

pub returns-in-Ok-clause-event : goal.returns-in-Ok-clause-event
returns-in-Ok-clause-event g c = λ d v.
    let S = g.D.Pm.state in
    let B = c.args.v.now.parts in
    let C = c.in-Some.cleaning in
    let cleans = sym c.take.ensures.value ∙ c.in-Some.is in
    let leads = used_leads d B (S c.args.v.now.device) v C.ino (v.cleaning C cleans).in_table
    (live_used d B (S c.args.v.now.device) C v cleans) in
    finish_works S c.args.v.now C cleans (of_some B.reclaiming.cleaning C (λ x. length x.pages.items ≤ x.written) cleans c.requires.written)
    g.F.Fingerprint.print d v
    (record { device = c.replace.new.device; print = c.args.v.now.print; kept = c.args.v.now.kept; parts = c.note_end.new.parts })
    (record {
      any_moment = c.replace.ensures.any_moment;
      only = c.replace.ensures.only;
      others = c.replace.ensures.others;
      spare = c.replace.ensures.spare;
      faults = c.replace.ensures.faults;
    })
    (record { done = c.in-Ok.ensures.done; settles = c.in-Ok.ensures.settles }) c.give_back_log.new.free
    (c.give_back_log.ensures.gives (d.inode C.ino).log.pages leads) (c.give_back_log.ensures.counted (d.inode C.ino).log.pages leads)
    (ends_taken B c.give_back_log.new.free c.take.new.self C c.note_end.new.parts c.take.ensures.after c.note_end.ensures) c.requires.none_waits

pub returns-in-Err-clause-agrees : goal.returns-in-Err-clause-agrees
returns-in-Err-clause-agrees g c =
    let S = g.D.Pm.state in
    let B = c.args.v.now.parts in
    let C = c.in-Some.cleaning in
    let cleans = sym c.take.ensures.value ∙ c.in-Some.is in
    let found = running_disk S c.args.v.now c.requires.running c.requires.agrees in
    is_stopped (finish_breaks S c.args.v.now C cleans
    (of_some B.reclaiming.cleaning C (λ x. length x.pages.items ≤ x.written) cleans c.requires.written) g.F.Fingerprint.print found.0 found.1
    (record { device = c.replace.new.device; print = c.args.v.now.print; kept = c.args.v.now.kept; parts = c.stop.new.parts })
    (record {
      any_moment = c.replace.ensures.any_moment;
      only = c.replace.ensures.only;
      others = c.replace.ensures.others;
      spare = c.replace.ensures.spare;
      faults = c.replace.ensures.faults;
    })
    c.give_back_log.new.free c.take.new.self c.stop.ensures
    (c.replace.ensures.failed (err_is c.replace.result _ c.in-Err.is))).stopped

pub returns-in-Err-clause-event : goal.returns-in-Err-clause-event
returns-in-Err-clause-event g c = λ d v.
    let S = g.D.Pm.state in
    let B = c.args.v.now.parts in
    let C = c.in-Some.cleaning in
    let cleans = sym c.take.ensures.value ∙ c.in-Some.is in (
      finish_breaks S c.args.v.now C cleans
          (of_some B.reclaiming.cleaning C (λ x. length x.pages.items ≤ x.written) cleans c.requires.written) g.F.Fingerprint.print d v
          (record { device = c.replace.new.device; print = c.args.v.now.print; kept = c.args.v.now.kept; parts = c.stop.new.parts })
          (record {
            any_moment = c.replace.ensures.any_moment;
            only = c.replace.ensures.only;
            others = c.replace.ensures.others;
            spare = c.replace.ensures.spare;
            faults = c.replace.ensures.faults;
          })
          c.give_back_log.new.free c.take.new.self c.stop.ensures
          (c.replace.ensures.failed (err_is c.replace.result _ c.in-Err.is)),
      begun_works B C cleans,
    )
