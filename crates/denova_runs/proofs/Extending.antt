-- Events only add calls of the device.
use Rattle.std.proofs.Common.{List, sym, subst}
use Rattle.pm_device.specs.State.{State, Agree}
use Rattle.pm_device.specs.Settled.{Extends}
use Rattle.pm_device.proofs.Moments.{extends_same}
use Rattle.pm_device.proofs.Only.{extends_then}
use Rattle.dn_model.specs.Own.{Print}
use Rattle.dn_model.specs.Course.{Base}
use Rattle.dn_volume.specs.declared.outcome.Outcome.{Outcome}
use Rattle.dn_volume.specs.declared.volume.Volume.{Volume}
use Rattle.dn_volume.specs.Sound.{Sound, is_sound, was_sound}
use Rattle.dn_core.specs.declared.event.Event.{Event}
use Rattle.dn_core.specs.Steps.{Steps}
use Rattle.dn_core.specs.Run.{Run, at_first, then_next}
use Rattle.dn_core.proofs.Adding.{runs_stay_sound}
use Rattle.dn_core.proofs.Leaves.{steps_leave_images}

module _ {D F : Type 0} (state : D → State) (agree : (x : D) → Agree (state x).now (state x).past) (print : Print) (base : Base) where
  step_extends : (event : Event) (outcome : Outcome) (v w : Volume D F) → Sound state print base v → Steps state print event v w outcome
      → Extends (state v.device).past (state w.device).past
  step_extends event outcome v w (is_sound d volume sound) steps =
      (steps_leave_images state agree print event v w d outcome volume steps).during.extends
  step_extends event outcome v w (was_sound stopped was) steps =
      subst (λ (x : Volume D F). Extends (state v.device).past (state x.device).past) (sym (steps.stopped stopped.stopped).1)
      (extends_same (state v.device).past)

  pub runs_extend : (u v : Volume D F) (events : List Event) (outcomes : List Outcome) → Sound state print base u
      → Run state print u events outcomes v → Extends (state u.device).past (state v.device).past
  runs_extend u _ _ _ sound at_first = extends_same (state u.device).past
  runs_extend u w _ _ sound (then_next {events = es} {outcomes = os} {v = x} event outcome before step) =
      extends_then (state u.device).past (state x.device).past (state w.device).past (runs_extend u x es os sound before)
      (step_extends event outcome x w (runs_stay_sound state agree print base u x es os before sound) step)
