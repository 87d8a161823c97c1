use Rattle.std.proofs.Common.{length, ap, ◌∙◌}
use Rattle.std.specs.List.{list_all}
use Rattle.pm_file.specs.Lines.{is_inside}
use Rattle.pm_file.proofs.Copied.{list_all-filter}
use Rattle.pm_file.proofs.device.FilePmPm.fence.Goals as goal

pub invariant_of-self : goal.invariant_of-self
invariant_of-self g c = let d = c.args.self.now in record {
  size = d.size;
  inside = ap (list_all (is_inside (length d.words.items))) c.forget.ensures.left ∙ list_all-filter (is_inside (length d.words.items)) _
      d.flushed.items d.inside;
}

pub invariant_of-self-in-Err : goal.invariant_of-self-in-Err
invariant_of-self-in-Err g c = let d = c.args.self.now in record {
  size = d.size;
  inside = ap (list_all (is_inside (length d.words.items))) c.forget.ensures.left ∙ list_all-filter (is_inside (length d.words.items)) _
      d.flushed.items d.inside;
}
