-- A word is stored, flushed and fenced: what images have on the way where it is settled before, and what is settled in the end.
use Rattle.std.proofs.Common.{◌≡◌, ◌≢◌, ◌⊎◌, inl, inr, ℕ, ◌-◌, ◌/◌, ◌<◌, Bool, true, [], ◌∷◌, length, refl, ◌∙◌, ap, arith, length-set}
use Rattle.std.proofs.Common.{get_or-set_same}
use Rattle.std.specs.Prelude.{slice_index, Result, Ok, Err, OnOk}
use Rattle.pm_device.specs.Past.{Stored, Flushed, Fenced}
use Rattle.pm_device.specs.State.{State, Stores, Flushes, Fences, Agree}
use Rattle.pm_device.specs.Settled.{EachLeft, IsRead, IsSettled, LeavesOnly, LeavesNow, StoresOnly, KeepsFlushed, Anyone, Others, SettlesAll}
use Rattle.pm_device.specs.Commit.{IsDone, LeavesOneWord}
use Rattle.pm_device.specs.Words.{IsIn}
use Rattle.pm_device.proofs.Calls.{each_left-store_in, each_left-weaken, each_left-flush, each_left-fence, settled-store_out, settled-flush}
use Rattle.pm_device.proofs.Calls.{settled-fence, flushed-fence, read-store_out, image_has, flush_flushes}
use Rattle.pm_device.proofs.Only.{stores_only-store, stores_only-flush, stores_only-fence, stores_only-then, stores_only-weaken}
use Rattle.pm_device.proofs.Flushed.{flushed-store_out, flushed-flush, keeps-store, keeps-flush, keeps-fence, keeps-then, keeps-weaken}
use Rattle.pm_device.proofs.AllFlushed.{settles_word}
use Rattle.pm_device.proofs.Moments.{started, goes_on}

-- a store of one word, a flush and a fence
pub record Sets (who at value : ℕ) (s u v x : State) (ok : Bool) : Type 0 where
  pub inside : at < length s.now
  pub stores : Stores at (value ∷ []) s u
  pub flushes : Flushes who (at / 8) 1 u v
  pub last : Fences who ok v x
  pub agree_s : Agree s.now s.past
  pub agree_u : Agree u.now u.past
  pub agree_v : Agree v.now v.past
  pub agree_x : Agree x.now x.past

module _ (who at value : ℕ) (s u v x : State) (ok : Bool) (is : Sets who at value s u v x ok) where
  abbrev Either : ℕ → Type 0
  Either n = (n ≡ slice_index s.now at) ⊎ (n ≡ value)

  -- every settled word but one is settled still, and read as before
  abbrev Rest : State → Type 0
  Rest y = (a : ℕ) → a < length s.now → IsSettled s a → a ≢ at → IsSettled y a × (slice_index y.now a ≡ slice_index s.now a)

  apart : (a : ℕ) → a ≢ at → IsIn at 1 a → ⊥
  apart a ne h = ne (omega (arith, h.0, h.1))

  rest_u : Rest u
  rest_u a lt settled ne =
      (settled-store_out s u a at (value ∷ []) is.stores (apart a ne) settled, read-store_out s u a at (value ∷ []) is.stores (apart a ne))

  rest_v : Rest v
  rest_v a lt settled ne =
      let u_rest = rest_u a lt settled ne in
      (settled-flush u v a who (at / 8) 1 is.flushes u_rest.0, ap (λ xs. slice_index xs a) is.flushes.now ∙ u_rest.1)

  rest_x : Rest x
  rest_x a lt settled ne =
      (settled-fence v x a who ok is.last (rest_v a lt settled ne).0, ap (λ xs. slice_index xs a) is.last.now ∙ (rest_v a lt settled ne).1)

  long_u : length u.now ≡ length s.now
  long_u = ap length is.stores.now ∙ length-set s.now at value

  long_v : length v.now ≡ length s.now
  long_v = ap length is.flushes.now ∙ long_u

  long_x : length x.now ≡ length s.now
  long_x = ap length is.last.now ∙ long_v

  either_leaves : (y : State) → Agree y.now y.past → length y.now ≡ length s.now → EachLeft y at Either → Rest y
      → LeavesNow y (LeavesOneWord at value s)
  either_leaves y agree long either rest c left = record {
    word = image_has y c at Either agree left (omega (arith, long, is.inside)) either;
    others = λ a lt settled ne. image_has y c a (IsRead y a) agree left (omega (arith, long)) (rest a lt settled ne).0 ∙ (rest a lt settled ne).1;
  }

  module _ (settled : IsSettled s at) where
    either_s : EachLeft s at Either
    either_s = each_left-weaken s s at (IsRead s at) Either (λ n old. inl old) settled

    either_u : EachLeft u at Either
    either_u =
        let z : at - at ≡ 0 = omega arith in
        each_left-store_in s u at Either at (value ∷ []) is.stores (omega arith) (omega arith) (rw z (inr refl)) either_s

    either_v : EachLeft v at Either
    either_v = each_left-flush u v at Either who (at / 8) 1 is.flushes either_u

    either_x : EachLeft x at Either
    either_x = each_left-fence v x at Either who ok is.last either_v

    pub leaves : LeavesOnly s x (LeavesOneWord at value s)
    leaves =
        let P = LeavesOneWord at value s in
        let to_s = started s P (either_leaves s is.agree_s refl either_s (λ a lt settled ne. (settled, refl))) in
        let to_u = goes_on s s u P (Stored at (value ∷ [])) to_s is.stores.past (either_leaves u is.agree_u long_u either_u rest_u) in
        let to_v = goes_on s u v P (Flushed who (at / 8) 1) to_u is.flushes.past (either_leaves v is.agree_v long_v either_v rest_v) in
        goes_on s v x P (Fenced who ok) to_v is.last.past (either_leaves x is.agree_x long_x either_x rest_x)

  pub done : ok ≡ true → IsDone who at value s x
  done went = record {
    now = is.last.now ∙ is.flushes.now ∙ is.stores.now;
    word =
        flushed-fence v x at who ok went is.last
        (flush_flushes u v at who (at / 8) 1 is.agree_u is.flushes (omega arith) (omega arith) (omega (arith, long_u, is.inside)));
    flushed = λ a lt flushed ne. flushed-fence v x a who ok went is.last
        (flushed-flush u v who a who (at / 8) 1 is.flushes (flushed-store_out s u who a at (value ∷ []) is.stores (apart a ne) flushed));
  }

  abbrev At : ℕ → Type 0
  At a = a ≡ at

  pub only : StoresOnly At s x
  only =
      let run = stores_only-store s u at (value ∷ []) is.agree_s is.agree_u is.stores in
      let one : StoresOnly At s u = stores_only-weaken (IsIn at 1) At s u (λ a h. omega (arith, h.0, h.1)) run in
      let front = stores_only-then At s u v one (stores_only-flush At u v who (at / 8) 1 is.agree_u is.agree_v is.flushes) in
      stores_only-then At s v x front (stores_only-fence At v x who ok is.agree_v is.agree_x is.last)

  pub others : KeepsFlushed (Others who) At s x
  others =
      let Q = Others who in
      let run = keeps-store s u at (value ∷ []) is.stores in
      let one : KeepsFlushed Q At s u = keeps-weaken Anyone Q (IsIn at 1) At s u (λ q other. tt) (λ a h. omega (arith, h.0, h.1)) run in
      keeps-then Q At s v x (keeps-then Q At s u v one (keeps-flush Q At u v who (at / 8) 1 is.flushes)) (keeps-fence At v x who ok is.last)

  pub settles_all : ok ≡ true → SettlesAll who s x
  settles_all went = settles_word who at value s x others (done went)

pub on_ok_map : {T E : Type 0} (r : Result T E) (P Q : Type 0) → (P → Q) → OnOk r P → OnOk r Q
on_ok_map (Ok x) P Q f holds = f holds
on_ok_map (Err e) P Q f holds = tt

-- a word that is stored reads so
pub done_value : (who at value : ℕ) (s t : State) → at < length s.now → IsDone who at value s t → slice_index t.now at ≡ value
done_value who at value s t inside is = ap (λ xs. slice_index xs at) is.now ∙ get_or-set_same s.now at value 0 inside
