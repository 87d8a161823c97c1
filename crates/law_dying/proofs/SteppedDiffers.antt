-- What a disk says when a dying inode goes on: other things at one word alone, and less.
use Rattle.std.proofs.Common.{◌≡◌, ◌≢◌, ◌⊎◌, inl, inr, ⊎_elim, ℕ, ◌*◌, ◌<◌, List, [], refl, sym, ◌∙◌, ap, subst, arith}
use Rattle.std.specs.Prelude.{IsSome}
use Rattle.std.proofs.lemmas.Bool.{cases_eq}
use Rattle.pm_device.specs.Reading.{Said, DiffersAt}
use Rattle.pm_device.specs.Pages.{SaysRun}
use Rattle.pm_layout.specs.Geometry.{inode_word}
use Rattle.dn_model.specs.Log.{LogSays}
use Rattle.dn_model.specs.Table.{Row, row_of}
use Rattle.dn_model.specs.Disk.{
  Disk,
  Inode,
  Free,
  Dying,
  IsUsed,
  IsMapped,
  rows,
  state_number,
  DiskSays,
  of_head,
  of_inodes,
  of_logs,
  of_chains,
  of_pointers,
  of_pages,
  HeadSays,
  at_magic,
  at_version,
  at_pages,
  at_inodes,
  at_gate,
  InodesSay,
  at_state,
  at_cut,
  LogsSay,
  ChainsSay,
  PointersSay,
}
use Rattle.dn_model.proofs.Regions.{inode_word_low}
use Rattle.law_write.specs.Events.{IsReadPage}
use Rattle.law_write.proofs.Unread.{read_in_data}
use Rattle.law_names.proofs.Places.{IsHigh, high_not_inode, data_high, chain_high, pointer_high, LogPlace, is_head, is_tail, is_high, log_place}
use Rattle.law_table_on_disk.specs.OneWord.{IsOneWord}
use Rattle.law_dying.specs.Dying.{Step, Falls, Ends, use_after, step_word, step_value, stepped}
use Rattle.law_dying.proofs.Stepped.{at_ino, at_other, same_geometry, same_rows}
use Rattle.law_dying.proofs.Dropped.{MayStep, was_used, below, mapped_only}
use Rattle.law_dying.proofs.SteppedValid.{stepped_valid}

dying_one : (b c : ℕ) → Dying b ≡ Dying c → b ≡ c
dying_one b c e = cc

free_dying : (c : ℕ) → Free ≡ Dying c → ⊥
free_dying c e = cc

not_step_word : (ino a : ℕ) (step : Step) → a ≢ inode_word ino 0 → a ≢ inode_word ino 3 → a ≢ step_word ino step
not_step_word ino a (Falls cut) no_state no_cut = no_cut
not_step_word ino a Ends no_state no_cut = no_state

module _ (d : Disk) (ino : ℕ) (step : Step) (may : MayStep d ino step) where
  abbrev new : Disk
  new = stepped d ino step

  abbrev Differs : ℕ → ℕ → Type 0
  Differs a v = ((a ≡ step_word ino step) × (v ≡ step_value step)) ⊎ ((a ≢ step_word ino step) × (DiskSays d a v ⊎ SaysRun 0 [] a v))

  other : (a v : ℕ) → a ≢ inode_word ino 0 → a ≢ inode_word ino 3 → DiskSays d a v → Differs a v
  other a v no_state no_cut says = inr (not_step_word ino a step no_state no_cut, inl says)

  high_other : (a v : ℕ) → IsHigh d.geometry a → DiskSays d a v → Differs a v
  high_other a v high says = other a v (high_not_inode d.geometry a ino 0 high may.in_table (omega arith))
      (high_not_inode d.geometry a ino 3 high may.in_table (omega arith)) says

  head_same : (a v : ℕ) → HeadSays new a v → HeadSays d a v
  unfolding stepped
  head_same a v (at_magic place value) = at_magic place value
  head_same a v (at_version place value) = at_version place value
  head_same a v (at_pages place value) = at_pages place value
  head_same a v (at_inodes place value) = at_inodes place value
  head_same a v (at_gate place value) = at_gate place value

  head_differs : (a v : ℕ) → HeadSays d a v → Differs a v
  head_differs a v (at_magic place value) = other a v (λ e. omega arith) (λ e. omega arith) (of_head (at_magic place value))
  head_differs a v (at_version place value) = other a v (λ e. omega arith) (λ e. omega arith) (of_head (at_version place value))
  head_differs a v (at_pages place value) = other a v (λ e. omega arith) (λ e. omega arith) (of_head (at_pages place value))
  head_differs a v (at_inodes place value) = other a v (λ e. omega arith) (λ e. omega arith) (of_head (at_inodes place value))
  head_differs a v (at_gate place value) = other a v (λ e. omega arith) (λ e. omega arith) (of_head (at_gate place value))

  state_here : (s : Step) (a v : ℕ) → a ≡ inode_word ino 0 → v ≡ state_number (use_after s) → ((a ≡ step_word ino s) × (v ≡ step_value s))
      ⊎ ((a ≢ step_word ino s) × (DiskSays d a v ⊎ SaysRun 0 [] a v))
  state_here (Falls cut) a v place value = inr (
    λ e. omega (arith, place, e),
    inl (of_inodes (at_state ino may.in_table place (value ∙ ap state_number (sym may.dying)))),
  )
  state_here Ends a v place value = inl (place, value)

  cut_here : (s : Step) (a v c : ℕ) → use_after s ≡ Dying c → a ≡ inode_word ino 3 → v ≡ c → ((a ≡ step_word ino s) × (v ≡ step_value s))
      ⊎ ((a ≢ step_word ino s) × (DiskSays d a v ⊎ SaysRun 0 [] a v))
  cut_here (Falls cut) a v c dying place value = inl (place, value ∙ sym (dying_one cut c dying))
  cut_here Ends a v c dying place value = absurd (free_dying c dying)

  inodes_differ : (a v : ℕ) → InodesSay new a v → Differs a v
  inodes_differ a v (at_state i lt place value) = elim (cases_eq i ino) [
    | inl e ↦ state_here step a v (place ∙ ap (λ (j : ℕ). inode_word j 0) e) (value ∙ ap (λ (n : Inode). state_number n.use_of)
        (ap new.inode e ∙ at_ino d ino step))
    | inr ne ↦ other a v (λ f. ne (omega (arith, place, f))) (λ f. omega (arith, place, f))
        (of_inodes (at_state i (below d ino step may i lt) place (value ∙ ap (λ (n : Inode). state_number n.use_of) (at_other d ino step i ne))))
  ]
  inodes_differ a v (at_cut i c lt dying place value) = elim (cases_eq i ino) [
    | inl e ↦ cut_here step a v c (ap (λ (n : Inode). n.use_of) (sym (ap new.inode e ∙ at_ino d ino step)) ∙ dying)
        (place ∙ ap (λ (j : ℕ). inode_word j 3) e) value
    | inr ne ↦ other a v (λ f. omega (arith, place, f)) (λ f. ne (omega (arith, place, f)))
        (of_inodes (at_cut i c (below d ino step may i lt) (ap (λ (n : Inode). n.use_of) (sym (at_other d ino step i ne)) ∙ dying) place value))
  ]

  place_other : (i a v : ℕ) → LogPlace d.geometry i a → DiskSays d a v → Differs a v
  place_other i a v (is_head e) says = other a v (λ f. omega (arith, e, f)) (λ f. omega (arith, e, f)) says
  place_other i a v (is_tail e) says = other a v (λ f. omega (arith, e, f)) (λ f. omega (arith, e, f)) says
  place_other i a v (is_high high) says = high_other a v high says

  logs_same : (a v : ℕ) → LogsSay new a v → LogsSay d a v
  logs_same a v told = elim (cases_eq told.ino ino) [
    | inl e ↦ record {
      ino = ino;
      in_table = may.in_table;
      used = was_used d ino step may;
      says = subst (λ (n : Inode). LogSays ino n.log a v) (at_ino d ino step) (subst (λ (j : ℕ). LogSays j (new.inode j).log a v) e told.says);
    }
    | inr ne ↦ record {
      ino = told.ino;
      in_table = below d ino step may told.ino told.in_table;
      used = subst (λ (n : Inode). IsUsed n.use_of) (at_other d ino step told.ino ne) told.used;
      says = subst (λ (n : Inode). LogSays told.ino n.log a v) (at_other d ino step told.ino ne) told.says;
    }
  ]

  logs_differ : (a v : ℕ) → LogsSay d a v → Differs a v
  logs_differ a v told = place_other told.ino a v (log_place d.geometry told.ino (d.inode told.ino).log a v
      (may.valid.logs told.ino told.in_table told.used).paged told.says) (of_logs told)

  chains_same : (a v : ℕ) → ChainsSay new a v → ChainsSay d a v
  unfolding stepped
  chains_same a v told = record { prefix = told.prefix; direct = told.direct; says = told.says }

  pointers_same : (a v : ℕ) → PointersSay new a v → PointersSay d a v
  unfolding stepped
  pointers_same a v told = record { page = told.page; in_image = told.in_image; place = told.place; value = told.value }

  words_same : (page k v : ℕ) → v ≡ new.word page k → v ≡ d.word page k
  unfolding stepped
  words_same page k v value = value

  read_before : (page : ℕ) → IsReadPage new page → IsReadPage d page
  read_before page read = ⊎_elim (λ (mapped : IsMapped new page). inl (mapped_only d ino step may page mapped))
      (λ (row : IsSome (row_of (rows new) page)). inr (subst (λ (rs : List Row). IsSome (row_of rs page)) (same_rows d ino step) row)) read

  stepped_differs : DiffersAt (DiskSays d) (DiskSays new) (SaysRun 0 []) (step_word ino step) (step_value step)
  stepped_differs a v (of_head told) = head_differs a v (head_same a v told)
  stepped_differs a v (of_inodes told) = inodes_differ a v told
  stepped_differs a v (of_logs told) = logs_differ a v (logs_same a v told)
  stepped_differs a v (of_chains told) = let was = chains_same a v told in high_other a v (chain_high d.geometry was.prefix (d.chain was.prefix) a v
      was.says) (of_chains was)
  stepped_differs a v (of_pointers told) = let was = pointers_same a v told in high_other a v (pointer_high d.geometry was.page a was.place)
      (of_pointers was)
  stepped_differs a v (of_pages told) =
      let read : IsReadPage d told.page = read_before told.page told.read in
      high_other a v (data_high d.geometry told.page told.k a (read_in_data d may.valid told.page read) told.place)
      (of_pages (record {
        page = told.page;
        k = told.k;
        in_page = told.in_page;
        read = read;
        place = told.place;
        value = words_same told.page told.k v
            told.value;
      }))

  inside : (s : Step) → step_word ino s < 512 * d.geometry.pages
  inside (Falls cut) = let low = inode_word_low d.geometry ino 3 may.in_table (omega arith) in omega (arith, low, may.valid.accepted.room)
  inside Ends = let low = inode_word_low d.geometry ino 0 may.in_table (omega arith) in omega (arith, low, may.valid.accepted.room)

  said : (s : Step) → Said (DiskSays d) (step_word ino s)
  said (Falls cut) = record { value = may.before; told = of_inodes (at_cut ino may.before may.in_table may.dying refl refl) }
  said Ends = record { value = state_number (d.inode ino).use_of; told = of_inodes (at_state ino may.in_table refl refl) }

  pub stepped_one_word : IsOneWord d new 0 [] (step_word ino step) (step_value step)
  stepped_one_word = record {
    geometry = same_geometry d ino step;
    old_valid = may.valid;
    new_valid = stepped_valid d ino step may;
    inside = inside step;
    said = said step;
    differs = stepped_differs;
  }
