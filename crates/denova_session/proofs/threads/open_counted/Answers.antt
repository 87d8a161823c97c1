use Rattle.denova_session.proofs.Threaded.{memory_fails}
use Rattle.denova_session.proofs.threads.open_counted.Goals as goal

pub returns-in-Err-clause-fails : goal.returns-in-Err-clause-fails
returns-in-Err-clause-fails g c = λ scripts rises. c.in-Err.ensures.fails scripts

pub returns-in-Ok-words_of_rows-clause-opened : goal.returns-in-Ok-words_of_rows-clause-opened
returns-in-Ok-words_of_rows-clause-opened g c = record {
  sound = c.in-Ok.ensures.sound;
  agrees = c.in-Ok.ensures.agrees;
  new = c.in-Ok.ensures.new;
  trace = c.in-Ok.ensures.trace;
  begun = c.in-Ok.ensures.begun;
  counts = c.in-Ok-words_of_rows.ensures;
}

pub returns-in-Err-words_of_rows-clause-fails : goal.returns-in-Err-words_of_rows-clause-fails
returns-in-Err-words_of_rows-clause-fails g c = λ scripts rises.
    memory_fails g.D.Pm.state g.F.Fingerprint.print (g.D.Pm.state c.args.device) c.in-Ok.volume c.in-Ok.ensures.new c.in-Ok.ensures.begun
    c.into_device.result c.into_device.ensures scripts rises
