-- A change of a table that one store decides: what its images have, and what stands at the end.
use Rattle.std.proofs.Common.{
  ◌≡◌,
  ◌≢◌,
  ◌⊎◌,
  inl,
  inr,
  ⊎_elim,
  ℕ,
  ◌+◌,
  ◌-◌,
  ◌*◌,
  ◌<◌,
  ◌≤◌,
  List,
  [],
  ◌++◌,
  length,
  sym,
  ◌∙◌,
  ap,
  subst,
  arith,
  length-append,
}
use Rattle.std.specs.Prelude.{slice_index}
use Rattle.std.proofs.lemmas.Bool.{cases_eq}
use Rattle.std.proofs.lemmas.List.{get_or_append_left}
use Rattle.pm_device.specs.State.{State}
use Rattle.pm_device.specs.Settled.{IsSettled, LeavesOnly, StoresOnly}
use Rattle.pm_device.specs.Reading.{Reads, Stands, IsReady, DiffersAt}
use Rattle.pm_device.specs.Words.{IsIn}
use Rattle.pm_device.specs.Pages.{HoldsRun, SaysRun}
use Rattle.pm_device.specs.Lines.{StoresRun}
use Rattle.pm_device.specs.Commit.{IsCommitted, IsDone, LeavesOneWord}
use Rattle.pm_device.proofs.OneWord.{reads_old_or_new, stands_new, stands-stores}
use Rattle.pm_device.proofs.Layers.{leaves_only-stores, ready-weaken, stands_is_ready, run_is_ready, stands-weaken}
use Rattle.dn_model.specs.Disk.{Disk, TableSays}
use Rattle.law_table.specs.Words.{HoldsTable, IsOneTableWord, IsUntold}

module _ (old new : Disk) (first : ℕ) (fresh : List ℕ) (at value : ℕ) (is : IsOneTableWord old new first fresh at value) where
  pub word_settled : (s : State) → Stands (TableSays old) s → IsSettled s at
  word_settled s stands = stands.settled at is.said.value is.said.told

  pub word_images : (who : ℕ) (s t : State) → Stands (TableSays old) s → IsReady who (SaysRun first fresh) s
      → LeavesOnly s t (IsCommitted who at value s) → LeavesOnly s t (λ c. HoldsTable c old ⊎ HoldsTable c new)
  word_images who s t stands ready leaves = record {
    extends = leaves.extends;
    each = λ m c late left. reads_old_or_new (TableSays old) (TableSays new) (SaysRun first fresh) who at value s c is.differs stands ready
        (leaves.each m c late left);
  }

  pub word_stands : (who : ℕ) (s t : State) → length s.now ≡ 512 * old.geometry.pages → Stands (TableSays old) s → IsReady who (SaysRun first fresh) s
      → IsDone who at value s t → StoresOnly (λ a. a ≡ at) s t → Stands (TableSays new) t
  word_stands who s t size stands ready done only =
      stands_new (TableSays old) (TableSays new) (SaysRun first fresh) who at value s t is.differs stands ready (omega (arith, is.inside, size)) done
      only

  pub word_reads : (s t : State) → HoldsTable s.now old → Reads (SaysRun first fresh) s.now
      → slice_index t.now at ≡ value → StoresOnly (λ a. a ≡ at) s t → HoldsTable t.now new
  word_reads s t holds ready moved only a v told = ⊎_elim
      (λ (here : (a ≡ at) × (v ≡ value)). subst (λ (b : ℕ). slice_index t.now b ≡ value) (sym here.0) moved ∙ sym here.1)
      (λ (there : (a ≢ at) × (TableSays old a v ⊎ SaysRun first fresh a v)).
      only.read a there.0 ∙ ⊎_elim (λ (before : TableSays old a v). holds a v before) (λ (run : SaysRun first fresh a v). ready a v run) there.1)
      (is.differs a v told)

-- in any order, where fresh words stand: an image has what was said before or what is said after
module _ (Old New Fresh : ℕ → ℕ → Type 0) (at value : ℕ) (differs : DiffersAt Old New Fresh at value) (s : State) (stands : Stands Old s)
    (ready : Stands Fresh s) (c : List ℕ) (leaves : LeavesOneWord at value s c) where
  same_there : (Says : ℕ → ℕ → Type 0) → Stands Says s → (a v : ℕ) → Says a v → a ≢ at → slice_index c a ≡ v
  same_there Says stand a v told ne = leaves.others a (stand.within a v told) (stand.settled a v told) ne ∙ stand.reads a v told

  reads_old : slice_index c at ≡ slice_index s.now at → Reads Old c
  reads_old same a v told = elim (cases_eq a at) [
    | inl e ↦ subst (λ (b : ℕ). slice_index c b ≡ slice_index s.now b) (sym e) same ∙ stands.reads a v told
    | inr ne ↦ same_there Old stands a v told ne
  ]

  reads_new : slice_index c at ≡ value → Reads New c
  reads_new moved a v told = ⊎_elim
      (λ (here : (a ≡ at) × (v ≡ value)). subst (λ (b : ℕ). slice_index c b ≡ value) (sym here.0) moved ∙ sym here.1)
      (λ (there : (a ≢ at) × (Old a v ⊎ Fresh a v)). ⊎_elim (λ (before : Old a v). same_there Old stands a v before there.0)
      (λ (fresh : Fresh a v). same_there Fresh ready a v fresh there.0) there.1)
      (differs a v told)

  pub reads_either : Reads Old c ⊎ Reads New c
  reads_either = ⊎_elim (λ same. inl (reads_old same)) (λ moved. inr (reads_new moved)) leaves.word

pub word_any_order : (old new : Disk) (first : ℕ) (fresh : List ℕ) (at value : ℕ) → IsOneTableWord old new first fresh at value
    → (s t : State) → Stands (TableSays old) s → Stands (SaysRun first fresh) s → LeavesOnly s t (LeavesOneWord at value s)
    → LeavesOnly s t (λ c. HoldsTable c old ⊎ HoldsTable c new)
word_any_order old new first fresh at value is s t stands ready leaves = record {
  extends = leaves.extends;
  each = λ m c late left. reads_either (TableSays old) (TableSays new) (SaysRun first fresh) at value is.differs s stands ready c
      (leaves.each m c late left);
}

-- a run of no words stands
pub nothing_stands : (first : ℕ) (s : State) → Stands (SaysRun first []) s
nothing_stands first s = record {
  within = λ a v said. absurd (omega (arith, said.0.0, said.0.1));
  reads = λ a v said. absurd (omega (arith, said.0.0, said.0.1));
  settled = λ a v said. absurd (omega (arith, said.0.0, said.0.1));
}

-- a run that was stored and flushed stands once its actor has set another word
pub stands_through : (who first : ℕ) (values : List ℕ) (at value : ℕ) (s t : State) → IsReady who (SaysRun first values) s
    → (IsIn first (length values) at → ⊥)
    → IsDone who at value s t → StoresOnly (λ a. a ≡ at) s t → Stands (SaysRun first values) t
stands_through who first values at value s t ready out done only = record {
  within = λ a v said. omega (arith, ready.within a v said, only.words);
  reads = λ a v said. only.read a (apart a v said) ∙ ready.reads a v said;
  settled = λ a v said. done.flushed a (ready.within a v said) (ready.flushed a v said) (apart a v said);
}
  where
    apart : (a v : ℕ) → SaysRun first values a v → a ≢ at
    apart a v said e = out (subst (IsIn first (length values)) e said.0)

-- a word of a run
pub says_run : (first : ℕ) (values : List ℕ) (a v k : ℕ) → k < length values → a ≡ first + k → v ≡ slice_index values k → SaysRun first values a v
says_run first values a v k below place value = let back : k ≡ a - first = omega arith in
    ((omega arith, omega arith), value ∙ ap (slice_index values) back)

pub held_run_ready : (who first : ℕ) (values : List ℕ) (s : State) → first + length values ≤ length s.now → HoldsRun who first values s
    → IsReady who (SaysRun first values) s
held_run_ready = run_is_ready

pub stored_run_ready : (who first : ℕ) (values : List ℕ) (s t : State) → first + length values ≤ length s.now → StoresRun who first values s t
    → IsReady who (SaysRun first values) t
stored_run_ready who first values s t inside stores = run_is_ready who first values t (omega (arith, stores.only.words, inside))
    (record { reads = stores.reads; flushed = stores.flushed })

-- the front of a run
front_said : (first : ℕ) (values more : List ℕ) (a v : ℕ) → SaysRun first values a v → SaysRun first (values ++ more) a v
front_said first values more a v said =
    let long = length-append values more in
    ((said.0.0, omega (arith, said.0.1)), said.1 ∙ sym (get_or_append_left values more 0 (a - first) (omega (arith, said.0.0, said.0.1))))

pub front_ready : (who first : ℕ) (values more : List ℕ) (s : State) → IsReady who (SaysRun first (values ++ more)) s
    → IsReady who (SaysRun first values) s
front_ready who first values more s ready = ready-weaken who s (SaysRun first (values ++ more)) (SaysRun first values) (front_said first values more)
    ready

pub front_stands : (first : ℕ) (values more : List ℕ) (s : State) → Stands (SaysRun first (values ++ more)) s → Stands (SaysRun first values) s
front_stands first values more s stands = stands-weaken s (SaysRun first (values ++ more)) (SaysRun first values) (front_said first values more)
    stands

pub ready_through : (who q first : ℕ) (values : List ℕ) (at value : ℕ) (s t : State) → IsReady who (SaysRun first values) s
    → (IsIn first (length values) at → ⊥)
    → IsDone who at value s t → StoresOnly (λ a. a ≡ at) s t → IsReady q (SaysRun first values) t
ready_through who q first values at value s t ready out done only = stands_is_ready q t (SaysRun first values)
    (stands_through who first values at value s t ready out done only)

pub nothing_ready : (who first : ℕ) (s : State) → IsReady who (SaysRun first []) s
nothing_ready who first s = record {
  within = λ a v said. absurd (omega (arith, said.0.0, said.0.1));
  reads = λ a v said. absurd (omega (arith, said.0.0, said.0.1));
  flushed = λ a v said. absurd (omega (arith, said.0.0, said.0.1));
}

-- stores to words of which the table says nothing
module _ (d : Disk) (first n : ℕ) (untold : IsUntold d first n) (s t : State) (only : StoresOnly (IsIn first n) s t) where
  pub untold_reads : HoldsTable s.now d → HoldsTable t.now d
  untold_reads holds a v told = only.read a (untold a v told) ∙ holds a v told

  pub untold_stands : Stands (TableSays d) s → Stands (TableSays d) t
  untold_stands stands = stands-stores (IsIn first n) s t only (TableSays d) untold stands

  pub untold_images : Stands (TableSays d) s → LeavesOnly s t (λ c. HoldsTable c d)
  untold_images stands = leaves_only-stores (IsIn first n) s t (TableSays d) only untold stands
