-- The words behind the magic are made.
use Rattle.std.proofs.Common.{◌≡◌, ◌≢◌, inl, inr, ℕ, ◌+◌, ◌-◌, ◌*◌, ◌<◌, ◌≤◌, Bool, true, false, List, length, refl, ◌∙◌, ap, subst, arith}
use Rattle.std.specs.Prelude.{slice_index, if◌then◌else◌, ◌==◌}
use Rattle.std.proofs.lemmas.Bool.{cases_lt}
use Rattle.std.proofs.lemmas.Bool.Decides.{nat_tests}
use Rattle.pm_device.specs.State.{State, Agree}
use Rattle.pm_device.specs.Settled.{IsFlushed, StoresOnly, KeepsFlushed, Anyone}
use Rattle.pm_device.specs.Words.{IsIn, cases_in}
use Rattle.pm_device.specs.Pages.{IsInPage}
use Rattle.pm_device.proofs.Only.{stores_only-none, stores_only-then, stores_only-weaken}
use Rattle.pm_layout.specs.declared.Geometry.{Geometry}
use Rattle.pm_layout.specs.Geometry.{first_data, gate_word}
use Rattle.recovery.specs.Tables.{is_table_part, table_word, AllFlushed, TablesTo, IsBehindMagic, HasHead, HasParts, TablesMade}

-- what the words of the tables are that are read
abbrev table_value : ℕ → ℕ
table_value a = if a == 1024 then 1 else 0

pub table_word-out : (g : Geometry) (a old : ℕ) → is_table_part g a ≡ false → table_word g a old ≡ old
unfolding table_word
table_word-out g a old out = ap (λ (b : Bool). if b then table_value a else old) out

table_word-in : (g : Geometry) (a old : ℕ) → is_table_part g a ≡ true → table_word g a old ≡ table_value a
unfolding table_word
table_word-in g a old part = ap (λ (b : Bool). if b then table_value a else old) part

one_there : (a : ℕ) → a ≡ 1024 → table_value a ≡ 1
one_there a e = grind (arith, nat_tests)

zero_elsewhere : (a : ℕ) → a ≢ 1024 → table_value a ≡ 0
zero_elsewhere a ne = grind (arith, nat_tests)

pub table_word-root : (g : Geometry) (a old : ℕ) → is_table_part g a ≡ true → a ≡ 1024 → table_word g a old ≡ 1
table_word-root g a old part e = table_word-in g a old part ∙ one_there a e

pub table_word-zero : (g : Geometry) (a old : ℕ) → is_table_part g a ≡ true → a ≢ 1024 → table_word g a old ≡ 0
table_word-zero g a old part ne = table_word-in g a old part ∙ zero_elsewhere a ne

-- a run was stored and flushed, and the rest was flushed before
pub all_flushed-run : (who at n : ℕ) (s t : State) → ((k : ℕ) → k < n → IsFlushed who t (at + k)) → KeepsFlushed Anyone (IsIn at n) s t
    → length t.now ≡ length s.now → AllFlushed who s → AllFlushed who t
all_flushed-run who at n s t flushed keeps long all a lt = elim (cases_in at n a) [
  | inl here ↦ let place : at + (a - at) ≡ a = omega (arith, here.0) in subst (IsFlushed who t) place
      (flushed (a - at) (omega (arith, here.0, here.1)))
  | inr out ↦ keeps.flushed who a tt out (omega (arith, long, lt)) (all a (omega (arith, long, lt)))
]

pub head_only : (s t u : State) → StoresOnly (IsIn 1 3) s t → StoresOnly (IsIn 512 1) t u → StoresOnly IsBehindMagic s u
head_only s t u first second = stores_only-then IsBehindMagic s t u
    (stores_only-weaken (IsIn 1 3) IsBehindMagic s t (λ a here. here.0) first)
    (stores_only-weaken (IsIn 512 1) IsBehindMagic t u (λ a here. omega (arith, here.0)) second)

-- nothing of the tables is made yet
pub tables-none : (g : Geometry) (who : ℕ) (s : State) → Agree s.now s.past → AllFlushed who s → TablesMade g who 2 s s
tables-none g who s agree all = record {
  only = stores_only-none IsBehindMagic s agree;
  made = record { words = refl; made = λ a low high. absurd (omega arith); before = λ a lt. refl; behind = λ a le. refl };
  flushed = all;
  spare = omega arith;
  faults = omega arith;
}

-- a page more
module _ (g : Geometry) (who page : ℕ) (s t u : State) (words : List ℕ) (low : 2 ≤ page) (so_far : TablesMade g who page s t)
    (only : StoresOnly (IsInPage page) t u)
    (spelled : (j : ℕ) → j < 512 → slice_index words j ≡ table_word g (512 * page + j) (slice_index t.now (512 * page + j)))
    (reads : (j : ℕ) → j < 512 → slice_index u.now (512 * page + j) ≡ slice_index words j) where
  here : (a : ℕ) → IsInPage page a → slice_index u.now a ≡ table_word g a (slice_index t.now a)
  here a inside =
      let place : 512 * page + (a - 512 * page) ≡ a = omega (arith, inside.0) in
      let small : a - 512 * page < 512 = omega (arith, inside.0, inside.1) in
      subst (λ (b : ℕ). slice_index u.now b ≡ table_word g b (slice_index t.now b)) place (reads (a - 512 * page) small ∙ spelled (a - 512 * page)
      small)

  apart : (a : ℕ) → (IsInPage page a → ⊥) → slice_index u.now a ≡ slice_index t.now a
  apart a out = only.read a out

  made_to : (a : ℕ) → 1024 ≤ a → a < 512 * (page + 1) → slice_index u.now a ≡ table_word g a (slice_index s.now a)
  made_to a le lt = elim (cases_in (512 * page) 512 a) [
    | inl inside ↦ here a inside ∙ ap (table_word g a) (so_far.made.behind a inside.0)
    | inr out ↦ apart a out ∙ so_far.made.made a le (below a lt out)
  ]
    where
      below : (a : ℕ) → a < 512 * (page + 1) → (IsInPage page a → ⊥) → a < 512 * page
      below a lt out = elim (cases_lt a (512 * page)) [ inl less ↦ less | inr ge ↦ absurd (out (ge, omega (arith, lt))) ]

  pub tables-next : AllFlushed who u → t.spare ≤ u.spare + 576 → t.faults ≤ u.faults → TablesMade g who (page + 1) s u
  tables-next flushed spare faults = record {
    only = stores_only-then IsBehindMagic s t u so_far.only (stores_only-weaken (IsInPage page) IsBehindMagic t u
        (λ a inside. omega (arith, inside.0)) only);
    made = record {
      words = only.words ∙ so_far.made.words;
      made = made_to;
      before = λ a lt. apart a (λ inside. omega (arith, inside.0)) ∙ so_far.made.before a lt;
      behind = λ a le. apart a (λ inside. omega (arith, inside.1)) ∙ so_far.made.behind a (omega (arith, le));
    };
    flushed = flushed;
    spare = omega (arith, so_far.spare, spare);
    faults = omega (arith, so_far.faults, faults);
  }

-- the head, and then the tables
pub has_parts : (g : Geometry) (s t u : List ℕ) → HasHead g s t → TablesTo g (first_data g) t u → HasParts g s u
has_parts g s t u head tables = record {
  version = tables.before 1 (omega arith) ∙ head.version;
  pages = tables.before 2 (omega arith) ∙ head.pages;
  inodes = tables.before 3 (omega arith) ∙ head.inodes;
  gate = tables.before gate_word (omega arith) ∙ head.gate;
  tables = λ a low high. tables.made a low high ∙ ap (table_word g a) (head.others a (inr (omega (arith, low))) (λ e. omega (arith, low, e)));
  others = λ a behind ne outside. elim outside [
    | inl lt ↦ tables.before a lt ∙ head.others a behind ne
    | inr le ↦ tables.behind a le ∙ head.others a behind ne
  ];
}

-- the first page of the data area comes after the superblock, the journal and the inode table
pub some_tables : (g : Geometry) → 8 ≤ g.inodes → 3 ≤ first_data g
unfolding first_data
some_tables g some = omega arith

pub all_pages : (g : Geometry) (page : ℕ) → 8 ≤ g.inodes → first_data g ≤ page → (2 ≤ first_data g → page ≤ first_data g) → page ≡ first_data g
all_pages g page some past end = let few = some_tables g some in let le = end (omega arith) in omega arith
