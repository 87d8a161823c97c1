-- One entry more, in each of the walks over a record.
use Rattle.std.proofs.Common.{
  ◌≡◌,
  inl,
  inr,
  ℕ,
  zero,
  suc,
  ◌+◌,
  ◌<◌,
  ◌≤◌,
  Bool,
  true,
  false,
  List,
  [],
  ◌∷◌,
  length,
  get_or,
  set,
  drop,
  refl,
  sym,
  ◌∙◌,
  ap,
  arith,
}
use Rattle.std.specs.Prelude.{slice_index, if◌then◌else◌}
use Rattle.std.proofs.lemmas.Bool.{cases_lt}
use Rattle.std.proofs.lemmas.List.{drop_more, drop-set, get_or_past}
use Rattle.pm_device.specs.Past.{covers}
use Rattle.pm_device.specs.Replay.{fenced_by, is_fenced, is_flush_by, fenced_flushes, last_after, durable_after, last_place, durable_place}
use Rattle.pm_device.specs.declared.entry.Entry.{Entry}
use Rattle.pm_device.specs.declared.entry.Entry.TheVariants.{Ran, Flushed as FlushedEntry, Fenced as FencedEntry}

is_flush_by-same : (f g : ℕ → Bool) (e : Entry) → ((who : ℕ) → f who ≡ g who) → is_flush_by f e ≡ is_flush_by g e
is_flush_by-same f g (Ran at from len) same = refl
is_flush_by-same f g (FlushedEntry who first lines) same = same who
is_flush_by-same f g (FencedEntry who ok) same = refl

-- from the entry at j on, where the walk back has come to k
module _ (es : List Entry) (j k : ℕ) (d : Entry) (next : j + 1 ≡ k) (within : k ≤ length es) where
  pub entries-more : drop j es ≡ get_or es j d ∷ drop k es
  entries-more = drop_more es j d (omega arith) ∙ ap (λ n. get_or es j d ∷ drop n es) next

  pub is_fenced-more : (who : ℕ) (b : Bool) → b ≡ is_fenced who (drop k es) → fenced_by who (get_or es j d) b ≡ is_fenced who (drop j es)
  is_fenced-more who b is = ap (fenced_by who (get_or es j d)) is ∙ sym (ap (is_fenced who) entries-more)

  pub fenced_flushes-more : (flushes : List Bool) (actors : ℕ → Bool) (b : Bool) → length flushes ≡ length es
      → ((who : ℕ) → actors who ≡ is_fenced who (drop k es))
      → drop k flushes ≡ fenced_flushes (drop k es) → b ≡ is_flush_by actors (get_or es j d) → drop j (set flushes j b) ≡ fenced_flushes (drop j es)
  fenced_flushes-more flushes actors b long same so_far is =
      drop-set flushes j b (omega arith)
      ∙ ap (λ n. b ∷ drop n flushes) next ∙ ap (λ (bs : List Bool). b ∷ bs) so_far
      ∙ ap (λ (c : Bool). c ∷ fenced_flushes (drop k es)) (is ∙ is_flush_by-same actors (λ who. is_fenced who (drop k es)) (get_or es j d) same)
      ∙ ap fenced_flushes (sym entries-more)

pub length-fenced_flushes : (es : List Entry) → length (fenced_flushes es) ≡ length es
length-fenced_flushes [] = refl
length-fenced_flushes (e ∷ es) = ap suc (length-fenced_flushes es)

flush_at : (es : List Entry) (k : ℕ) (d : Entry) (b : Bool) → k < length es → get_or (fenced_flushes es) k b ≡ is_flush_by
    (λ who. is_fenced who (drop (k + 1) es)) (get_or es k d)
flush_at [] k d b lt = absurd (omega arith)
flush_at (e ∷ es) zero d b lt = refl
flush_at (e ∷ es) (suc k) d b lt = let next : suc k + 1 ≡ suc (k + 1) = omega arith in rw next (flush_at es k d b (omega arith))

pub last_after-le : (a n : ℕ) (e : Entry) → last_after a n e ≤ n + 1
last_after-le a n (Ran at from len) = elim (covers at len a) as (λ b. (if b then n + 1 else n) ≤ n + 1) [ true ↦ omega arith | false ↦ omega arith ]
last_after-le a n (FlushedEntry who first lines) = omega arith
last_after-le a n (FencedEntry who ok) = omega arith

-- at the entry k, on the way forward
module _ (es : List Entry) (k : ℕ) (d : Entry) (lt : k < length es) where
  pub small-more : (words : ℕ) (last last' : List ℕ) → ((a : ℕ) → slice_index last a ≤ k) → length last' ≡ words
      → ((a : ℕ) → a < words → slice_index last' a ≡ last_after a (slice_index last a) (get_or es k d))
      → (a : ℕ) → slice_index last' a ≤ k + 1
  small-more words last last' small long each a = elim (cases_lt a words) [
    | inl here ↦ omega (arith, small a, each a here, last_after-le a (slice_index last a) (get_or es k d))
    | inr past ↦ omega (arith, get_or_past last' a 0 (omega arith))
  ]

  pub last_place-more : (a n n' : ℕ) → n' ≡ last_after a n (get_or es k d) → last_place a n' (drop (k + 1) es) ≡ last_place a n (drop k es)
  last_place-more a n n' is = ap (λ m. last_place a m (drop (k + 1) es)) is ∙ sym (ap (last_place a n) (drop_more es k d lt))

  pub durable_place-more : (a n n' s s' : ℕ) (flushes : List Bool) (b : Bool) → n' ≡ last_after a n (get_or es k d) → flushes ≡ fenced_flushes es
      → s' ≡ durable_after a n s (get_or es k d) (get_or flushes k b)
      → durable_place a n' s' (drop (k + 1) es) ≡ durable_place a n s (drop k es)
  durable_place-more a n n' s s' flushes b is all moved =
      ap (λ m. durable_place a m s' (drop (k + 1) es)) is
      ∙ ap (λ m. durable_place a (last_after a n (get_or es k d)) m (drop (k + 1) es)) (moved ∙ ap (durable_after a n s (get_or es k d))
      (ap (λ bs. get_or bs k b) all ∙ flush_at es k d b lt))
      ∙ sym (ap (durable_place a n s) (drop_more es k d lt))
