-- How a volume with which one event was made is given back.
use Rattle.std.proofs.Common.{◌≡◌, ℕ, ◌<◌, List, ◌++◌, length, drop, sym, ◌∙◌, ap, subst, All}
use Rattle.std.proofs.lemmas.List.Elements.{All-drop}
use Rattle.std.proofs.Math.Seq.{drop-append_seam}
use Rattle.pm_device.specs.State.{State}
use Rattle.pm_layout.specs.Geometry.{slots}
use Rattle.dn_model.specs.Own.{Print}
use Rattle.dn_model.specs.declared.op.CountChange.{CountChange}
use Rattle.dn_volume.specs.declared.volume.Volume.{Volume}
use Rattle.dn_volume.specs.Agrees.{Agrees, agrees_with, is_stopped, NamesSlots}
use Rattle.dn_shared.specs.declared.site.Site.{Site}
use Rattle.dn_shared.specs.Sites.{IsShared}

-- the changes that were made are those behind the trace of before
pub behind : {A : Type 0} (xs ys changes : List A) (n : ℕ) → n ≡ length xs → ys ≡ xs ++ changes → ys ≡ xs ++ drop n ys
behind xs ys changes n at is = is ∙ ap (λ l. xs ++ l) (sym (ap (drop n) is ∙ (ap (λ k. drop k (xs ++ changes)) at ∙ drop-append_seam xs changes)))

named : {D F : Type 0} (state : D → State) (v : Volume D F) → Agrees state v → NamesSlots v.parts
named state v (agrees_with d volume) = volume.trace
named state v (is_stopped is) = is.trace

pub inside : {D F : Type 0} (state : D → State) (print : Print) (base y : Site D F) (n many : ℕ) → IsShared state print base y
    → many ≡ slots base.volume.parts.geometry
    → All (λ (c : CountChange). c.slot < many) (drop n y.volume.parts.trace.items)
inside state print base y n many shared is =
    All-drop (λ (c : CountChange). c.slot < many) n y.volume.parts.trace.items
    (subst (λ (k : ℕ). All (λ (c : CountChange). c.slot < k) y.volume.parts.trace.items) (ap slots shared.geometry ∙ sym is)
    (named state y.volume shared.agrees))
