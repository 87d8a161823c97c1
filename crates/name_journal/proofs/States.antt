-- A commit of several words leads from one state to another.
use Rattle.std.proofs.Common.{◌≡◌, ◌≢◌, ◌⊎◌, inl, inr, ⊎_elim, ℕ, ◌*◌, ◌<◌, List, length, sym, ◌∙◌, ap, subst, arith}
use Rattle.std.specs.Prelude.{slice_index}
use Rattle.pm_device.specs.State.{State, Agree}
use Rattle.pm_device.specs.Settled.{MayLeave, IsSettled, LeavesOnly}
use Rattle.pm_device.specs.Reading.{Reads, Stands}
use Rattle.pm_device.specs.Pages.{IsInPage}
use Rattle.pm_device.specs.Words.{cases_in}
use Rattle.pm_device.proofs.Calls.{settled_is_flushed}
use Rattle.pm_layout.specs.declared.Geometry.{Geometry}
use Rattle.pm_layout.specs.Geometry.{IsAccepted, gate_word}
use Rattle.dn_model.specs.Rolled.{rolled}
use Rattle.name_journal.specs.declared.change.Change.{Change}
use Rattle.name_journal.specs.Changes.{address, AreChanges, IsNamed, NewValues, IsTouched}
use Rattle.name_journal.specs.AllOrNone.{AllOrNone, AllChanged, NoneChanged, IsAllDone, Leads, OldOrNewState}
use Rattle.name_journal.proofs.Told.{IsImage, leaves_only-image, settled_value_is}
use Rattle.name_journal.proofs.Opened.{changes_inside}
use Rattle.name_journal.proofs.Rolling.{cases_at}

pub cases_named : (changes : List Change) (a : ℕ) → IsNamed changes a ⊎ (IsNamed changes a → ⊥)
cases_named changes a = ⊎_elim
    (λ (found : (i : ℕ) × (i < length changes) × (a ≡ address changes i)). inl (record { i = found.0; lt = found.1; is = found.2 }))
    (λ (none : (i : ℕ) → i < length changes → a ≢ address changes i). inr (λ named. none named.i named.lt named.is))
    (cases_at (address changes) a (length changes))

module _ (g : Geometry) (who : ℕ) (changes : List Change) (says says' fresh : ℕ → ℕ → Type 0) (s t : State) (agree : Agree s.now s.past)
    (accepted : IsAccepted g) (whole : length s.now ≡ 512 * g.pages)
    (are : AreChanges g.inodes changes) (leads : Leads who changes says says' fresh s) where
  -- the gate is said to be closed
  gate_value : (v : ℕ) → says gate_word v → v ≡ 0
  gate_value v told = sym (leads.stands.reads gate_word v told) ∙ leads.stands.reads gate_word 0 leads.closed

  -- a word that is said is the gate, or is named, or is stored to by nobody
  where_said : (a v : ℕ) → says a v → (a ≡ gate_word) ⊎ IsNamed changes a ⊎ (IsTouched changes a → ⊥)
  where_said a v said = elim (cases_named changes a) [
    | inl named ↦ inr (inl named)
    | inr out ↦ elim (cases_in 512 512 a) [
      | inl page ↦ inl (leads.page a v page said)
      | inr off ↦ inr (inr (λ touched. ⊎_elim (λ (named : IsNamed changes a). out named) (λ (page : IsInPage 1 a). off page) touched))
    ]
  ]

  module _ (c : List ℕ) (image : IsImage s c) (is : AllOrNone g.inodes who changes s c) where
    closed : (a v : ℕ) → a ≡ gate_word → says a v → slice_index (rolled c) a ≡ v
    closed a v e said = ap (slice_index (rolled c)) e ∙ is.closed ∙ sym (gate_value v (subst (λ (b : ℕ). says b v) e said))

    -- what a stop might have left of a word that is said
    as_said : (a v : ℕ) → says a v → MayLeave s a (slice_index (rolled c) a) → slice_index (rolled c) a ≡ v
    as_said a v said may = settled_value_is s a (slice_index (rolled c) a) image.told may (leads.stands.settled a v said) ∙ leads.stands.reads a v
        said

    reads_old : NoneChanged changes s (rolled c) → Reads says (rolled c)
    reads_old none a v said = ⊎_elim (λ (e : a ≡ gate_word). closed a v e said) (λ (rest : IsNamed changes a ⊎ (IsTouched changes a → ⊥)). ⊎_elim
        (λ (named : IsNamed changes a). as_said a v said (subst (λ (b : ℕ). MayLeave s b (slice_index (rolled c) b)) (sym named.is)
        (none named.i named.lt)))
        (λ (out : IsTouched changes a → ⊥). as_said a v said (is.others a out (leads.stands.within a v said)))
        rest) (where_said a v said)

    reads_kept : AllChanged who changes s (rolled c) → (a v : ℕ) → (IsNamed changes a → ⊥) → says a v → slice_index (rolled c) a ≡ v
    reads_kept all a v out said = ⊎_elim (λ (e : a ≡ gate_word). closed a v e said) (λ (rest : IsNamed changes a ⊎ (IsTouched changes a → ⊥)). ⊎_elim
        (λ (named : IsNamed changes a). absurd (out named))
        (λ (off : IsTouched changes a → ⊥). all.flushed a (leads.stands.within a v said) (settled_is_flushed s who a (leads.stands.settled a v said))
        off ∙ leads.stands.reads a v said)
        rest) (where_said a v said)

    reads_new : AllChanged who changes s (rolled c) → Reads says' (rolled c)
    reads_new all a v said = ⊎_elim
        (λ (new : NewValues changes (length changes) a v). ap (slice_index (rolled c)) new.place ∙ all.values new.i new.lt ∙ sym new.value)
        (λ (rest : (IsNamed changes a → ⊥) × (says a v ⊎ fresh a v)). ⊎_elim
        (λ (old : says a v). reads_kept all a v rest.0 old)
        (λ (new : fresh a v). all.flushed a (leads.ready.within a v new) (leads.ready.flushed a v new) (leads.apart a v new) ∙ leads.ready.reads a v
        new)
        rest.1) (leads.differs a v said)

    old_or_new : OldOrNewState g.inodes says says' c
    old_or_new = (
      is.gate,
      ⊎_elim (λ (none : NoneChanged changes s (rolled c)). inl (reads_old none)) (λ (all : AllChanged who changes s (rolled c)).
          inr (reads_new all)) is.named,
    )

  -- Each image left in the call is, rolled, the one state or the other.
  pub old_or_new_state : LeavesOnly s t (AllOrNone g.inodes who changes s) → LeavesOnly s t (OldOrNewState g.inodes says says')
  old_or_new_state = leaves_only-image s t (AllOrNone g.inodes who changes s) (OldOrNewState g.inodes says says') agree old_or_new

  -- And at its end the other state stands.
  module _ (done : IsAllDone who changes s t) where
    -- one word of it
    record StandsAt (a v : ℕ) : Type 0 where
      within : a < length t.now
      read : slice_index t.now a ≡ v
      settled : IsSettled t a

    stands_kept : (a v : ℕ) → (IsNamed changes a → ⊥) → says a v → StandsAt a v
    stands_kept a v out said = record {
      within = omega (arith, leads.stands.within a v said, done.size);
      read = ⊎_elim (λ (e : a ≡ gate_word). ap (slice_index t.now) e ∙ done.gate ∙ sym (gate_value v (subst (λ (b : ℕ). says b v) e said)))
          (λ (rest : IsNamed changes a ⊎ (IsTouched changes a → ⊥)). ⊎_elim
          (λ (named : IsNamed changes a). absurd (out named)) (λ (off : IsTouched changes a → ⊥). done.others a off ∙ leads.stands.reads a v said)
          rest) (where_said a v said);
      settled = ⊎_elim (λ (e : a ≡ gate_word). subst (IsSettled t) (sym e) done.gate_settled)
          (λ (rest : IsNamed changes a ⊎ (IsTouched changes a → ⊥)). ⊎_elim
          (λ (named : IsNamed changes a). absurd (out named))
          (λ (off : IsTouched changes a → ⊥). done.flushed a (leads.stands.within a v said)
          (settled_is_flushed s who a (leads.stands.settled a v said)) off) rest) (where_said a v said);
    }

    stands_at : (a v : ℕ) → says' a v → StandsAt a v
    stands_at a v said = ⊎_elim
        (λ (new : NewValues changes (length changes) a v). record {
          within = omega (arith, new.place, changes_inside g changes (length s.now) accepted whole are new.i new.lt, done.size);
          read = ap (slice_index t.now) new.place ∙ done.values new.i new.lt ∙ sym new.value;
          settled = subst (IsSettled t) (sym new.place) (done.settled new.i new.lt);
        })
        (λ (rest : (IsNamed changes a → ⊥) × (says a v ⊎ fresh a v)). ⊎_elim
        (λ (old : says a v). stands_kept a v rest.0 old)
        (λ (new : fresh a v). record {
          within = omega (arith, leads.ready.within a v new, done.size);
          read = done.others a (leads.apart a v new) ∙ leads.ready.reads a v new;
          settled = done.flushed a (leads.ready.within a v new) (leads.ready.flushed a v new) (leads.apart a v new);
        })
        rest.1) (leads.differs a v said)

    pub new_state_stands : Stands says' t
    new_state_stands = record {
      within = λ a v said. (stands_at a v said).within;
      reads = λ a v said. (stands_at a v said).read;
      settled = λ a v said.
          (stands_at a v said).settled;
    }
