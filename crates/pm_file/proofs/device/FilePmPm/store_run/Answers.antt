use Rattle.std.proofs.Common.{arith, refl}
use Rattle.pm_file.proofs.Copied.{copied_back}
use Rattle.pm_file.proofs.device.FilePmPm.store_run.Goals as goal

pub returns-clause-stores : goal.returns-clause-stores
returns-clause-stores g c = let words = c.args.self.now.words in
    record {
      now = copied_back words.items c.args.values.now _ _ c.args.at _ words.len c.deref_mut.ensures.value c.copy_from_slice.ensures.after
          (omega arith) (words.ok.0) (omega (arith, c.requires.inside));
      past = refl;
      faults = omega arith;
      spare = omega arith;
    }
