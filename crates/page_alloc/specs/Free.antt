-- What a set of free pages is, and what each call does to it.
use Rattle.std.specs.Prelude.{◌≡◌, ◌≢◌, ◌↔◌, ℕ, ◌+◌, ◌<◌, ◌≤◌, List, [], ◌∷◌, length, if◌then◌else◌, nat_lt, All, Contains}
use Rattle.std.specs.List.Sorted.{IsStrictlyIncreasing}

-- the free pages among those below `pages`, each once, in rising order
pub record FreePages : Type 0 where
  pub pages : ℕ
  pub free : List ℕ

-- what is true of each such set
pub record IsInOrder (s : FreePages) : Type 0 where
  pub rising : IsStrictlyIncreasing s.free
  pub below : All (λ page. page < s.pages) s.free

-- a rising list with one page more
abbrev pub with_page : ℕ → List ℕ → List ℕ
with_page page [] = page ∷ []
with_page page (q ∷ qs) = if nat_lt page q then page ∷ (q ∷ qs) else (q ∷ with_page page qs)

-- the least free page is free no more, and nothing else changed
pub record Takes (page : ℕ) (old new : FreePages) : Type 0 where
  pub pages : new.pages ≡ old.pages
  pub rest : old.free ≡ page ∷ new.free
  pub least : All (λ q. page ≤ q) old.free
  pub gone : ¬ Contains new.free page
  pub others : (q : ℕ) → q ≢ page → (Contains new.free q ↔ Contains old.free q)

-- the page is free, and nothing else changed
pub record GivesBack (page : ℕ) (old new : FreePages) : Type 0 where
  pub pages : new.pages ≡ old.pages
  pub free : new.free ≡ with_page page old.free
  pub count : length new.free ≡ length old.free + 1
  pub there : Contains new.free page
  pub others : (q : ℕ) → q ≢ page → (Contains new.free q ↔ Contains old.free q)
