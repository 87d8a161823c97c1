-- Marks never fall.
use Rattle.std.proofs.Common.{◌≡◌, ◌⊎◌, inl, inr, ⊎_elim, ℕ, zero, suc, ◌<◌, ◌≤◌, le_refl, Bool, true, false, List, [], ◌∷◌, length, refl, sym, ◌∙◌, ap, arith}
use Rattle.std.specs.Prelude.{Option, Some, None, is_none, slice_get, ◌&&◌, ◌||◌, ◌==◌}
use Rattle.std.specs.List.{list_all}
use Rattle.std.proofs.lemmas.Bool.Decides.{nat_tests}
use Rattle.dn_volume.specs.declared.background.Sharing.{Sharing}
use Rattle.dn_volume.specs.declared.volume.Parts.{Parts}
use Rattle.dn_volume.specs.Works.{DaemonRests}
use Rattle.count_board.specs.Told.{IsPast}
use Rattle.dn_shared.specs.Left.{has_left, or_false}
use Rattle.dn_shared.specs.Sites.{is_empty, daemon_rests, none_released, is_landed, mark_of}

false_is : false ≡ true → ⊥
false_is e = cc

pub or_cases : (p q : Bool) → (p || q) ≡ true → (p ≡ true) ⊎ (q ≡ true)
or_cases true q is = inl refl
or_cases false q is = inr is

pub or_left : (p q : Bool) → p ≡ true → (p || q) ≡ true
or_left true q is = refl
or_left false q is = absurd (false_is is)

pub or_right : (p q : Bool) → q ≡ true → (p || q) ≡ true
or_right true q is = refl
or_right false q is = is

pub and_cases : (p q : Bool) → (p && q) ≡ true → (p ≡ true) × (q ≡ true)
and_cases true q is = (refl, is)
and_cases false q is = absurd (false_is is)

pub and_both : (p q : Bool) → p ≡ true → q ≡ true → (p && q) ≡ true
and_both true q is also = also
and_both false q is also = absurd (false_is is)

-- where all have left, each has
left_at : (gone : List Bool) → list_all (λ g. g) gone ≡ true → (k : ℕ) → k < length gone → or_false (slice_get gone k) ≡ true
left_at [] all k lt = absurd (omega (arith, lt))
left_at (g ∷ gone) all zero lt = (and_cases g (list_all (λ g. g) gone) all).0
left_at (g ∷ gone) all (suc k) lt = left_at gone (and_cases g (list_all (λ g. g) gone) all).1 k (omega (arith, lt))

pub not_all_left : (gone : List Bool) (who : ℕ) → 1 ≤ who → who ≤ length gone → has_left gone who ≡ false → list_all (λ g. g) gone ≡ true → ⊥
not_all_left gone zero some few here all = omega (arith, some)
not_all_left gone (suc k) some few here all = false_is (sym here ∙ left_at gone all k (omega (arith, few)))

-- how an event of the daemon or of reclaim leaves what rests
pub record Quiets (b b' : Parts) : Type 0 where
  pub landed : is_landed b ≡ true → is_landed b' ≡ true
  pub daemon : daemon_rests b ≡ true → (b'.stopped ≡ true) ⊎ (daemon_rests b' ≡ true)
  pub reclaim : none_released b ≡ true → (b'.stopped ≡ true) ⊎ (none_released b' ≡ true)

over_on : (s s' all land land' rest rest' : Bool) → (s ≡ true → s' ≡ true) → (land ≡ true → land' ≡ true)
    → (rest ≡ true → (s' ≡ true) ⊎ (rest' ≡ true))
    → (s || ((all && land) && rest)) ≡ true → (s' || ((all && land') && rest')) ≡ true
over_on s s' all land land' rest rest' stops landed rests is = ⊎_elim (λ stopped. or_left s' ((all && land') && rest') (stops stopped))
    (λ over. let two = and_cases (all && land) rest over in let here = and_cases all land two.0 in
    ⊎_elim (or_left s' ((all && land') && rest'))
    (λ rested. or_right s' ((all && land') && rest')
    (and_both (all && land') rest' (and_both all land' here.0 (landed here.1)) rested)) (rests two.1))
    (or_cases s ((all && land) && rest) is)

never_over : (s s' all land land' rest rest' : Bool) → (s ≡ true → s' ≡ true) → (all ≡ true → ⊥)
    → (s || ((all && land) && rest)) ≡ true → (s' || ((all && land') && rest')) ≡ true
never_over s s' all land land' rest rest' stops here is = ⊎_elim (λ stopped. or_left s' ((all && land') && rest') (stops stopped))
    (λ over. absurd (here (and_cases all land (and_cases (all && land) rest over).0).0))
    (or_cases s ((all && land) && rest) is)

-- such an event leaves a later mark
pub work_past : (gone : List Bool) (b b' : Parts) → (b.stopped ≡ true → b'.stopped ≡ true) → b.made ≤ b'.made → Quiets b b'
    → IsPast (mark_of gone b) (mark_of gone b')
work_past gone b b' stops makes quiet = record {
  stops = stops;
  leaves = le_refl _;
  makes = makes;
  daemon = over_on b.stopped b'.stopped (list_all (λ g. g) gone) (is_landed b) (is_landed b') (daemon_rests b) (daemon_rests b') stops quiet.landed
      quiet.daemon;
  counts = over_on b.stopped b'.stopped (list_all (λ g. g) gone) (is_landed b) (is_landed b') (none_released b) (none_released b') stops quiet.landed
      quiet.reclaim;
}

-- so does one of a client that hasn't left
pub client_past : (gone : List Bool) (b b' : Parts) → (b.stopped ≡ true → b'.stopped ≡ true) → b.made ≤ b'.made
    → (list_all (λ g. g) gone ≡ true → ⊥) → IsPast (mark_of gone b) (mark_of gone b')
client_past gone b b' stops makes here = record {
  stops = stops;
  leaves = le_refl _;
  makes = makes;
  daemon = never_over b.stopped b'.stopped (list_all (λ g. g) gone) (is_landed b) (is_landed b') (daemon_rests b) (daemon_rests b') stops here;
  counts = never_over b.stopped b'.stopped (list_all (λ g. g) gone) (is_landed b) (is_landed b') (none_released b) (none_released b') stops here;
}

none_begun : (o : Option Sharing) → is_none o ≡ true → o ≡ None
none_begun None is = refl
none_begun (Some x) is = absurd (false_is is)

none_waits : {A : Type 0} (l : List A) → is_empty l ≡ true → l ≡ []
none_waits [] is = refl
none_waits (x ∷ l) is = absurd (false_is is)

pub daemon_rested : (b : Parts) → daemon_rests b ≡ true → DaemonRests b
daemon_rested b is = let two = and_cases (is_none b.sharing) (is_empty b.queue.items) is in
    record { none_begun = none_begun b.sharing two.0; none_waits = none_waits b.queue.items two.1 }

pub same_daemon : (b b' : Parts) → b'.sharing ≡ b.sharing → b'.queue.items ≡ b.queue.items → daemon_rests b ≡ true → daemon_rests b' ≡ true
same_daemon b b' sharing queue rests = (λ i. is_none (sharing i) && is_empty (queue i)) ∙ rests

pub same_reclaim : (b b' : Parts) → b'.reclaiming.waiting ≡ b.reclaiming.waiting → none_released b ≡ true → none_released b' ≡ true
same_reclaim b b' waiting rests = ap (λ (n : ℕ). n == 0) waiting ∙ rests

pub empty_daemon : (b b' : Parts) → b'.sharing ≡ b.sharing → b'.queue.items ≡ [] → daemon_rests b ≡ true → daemon_rests b' ≡ true
empty_daemon b b' sharing none rests = same_daemon b b' sharing (none ∙ sym (daemon_rested b rests).none_waits) rests

pub released_none : (b : Parts) → none_released b ≡ true → b.reclaiming.waiting ≡ 0
released_none b is = grind (arith, nat_tests, is)

pub none_still : (b b' : Parts) → (b'.reclaiming.waiting < b.reclaiming.waiting) ⊎ ((b.reclaiming.waiting ≡ 0) × (b'.reclaiming.waiting ≡ 0))
    → none_released b ≡ true → none_released b' ≡ true
none_still b b' lowers none =
    let zero = released_none b none in ⊎_elim
    (λ less. absurd (omega (arith, less, zero)))
    (λ both. same_reclaim b b' (both.1 ∙ sym both.0) none) lowers
