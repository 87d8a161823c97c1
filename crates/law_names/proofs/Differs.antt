-- What a disk says after a change of names: the words that change, what it said before, and fresh words.
use Rattle.std.proofs.Common.{◌≡◌, ◌≢◌, ◌⊎◌, inl, inr, ⊎_elim, ℕ, ◌-◌, ◌<◌, ◌≤◌, List, [], ◌∷◌, refl, sym, ◌∙◌, ap, subst, arith}
use Rattle.std.specs.Prelude.{slice_index, IsSome}
use Rattle.pm_device.specs.Pages.{SaysRun}
use Rattle.pm_layout.specs.Geometry.{inode_word}
use Rattle.log_entry.specs.Spelling.{pages_of}
use Rattle.dn_model.specs.Log.{LogSays, at_tail, at_head, at_footer, at_slot, IsPaged, count, tail_at, no_log}
use Rattle.dn_model.specs.Maps.{size_of}
use Rattle.dn_model.specs.Table.{Row, row_of}
use Rattle.dn_model.specs.Disk.{
  Disk,
  Inode,
  Free,
  Live,
  Dying,
  IsUsed,
  IsMapped,
  rows,
  state_number,
  DiskSays,
  of_head,
  of_inodes,
  of_logs,
  of_chains,
  of_pointers,
  of_pages,
  HeadSays,
  at_magic,
  at_version,
  at_pages,
  at_inodes,
  at_gate,
  InodesSay,
  at_state,
  at_cut,
  ChainsSay,
  PointersSay,
}
use Rattle.dn_model.specs.Growth.{IsGrown, Prepared, IsTail}
use Rattle.dn_model.specs.Valid.{IsValid}
use Rattle.dn_model.proofs.Append.{not_tail, says-grown}
use Rattle.law_write.specs.Events.{IsReadPage}
use Rattle.law_write.proofs.Unread.{read_in_data, prepared_unsaid}
use Rattle.law_names.specs.NameChange.{
  NameChange,
  Turn,
  Stays,
  Comes,
  Goes,
  MayTurn,
  turned,
  root_after,
  names_changed,
  MayChange,
  FreshNames,
  in_root,
  in_inode,
  turn_field,
  turn_words,
}
use Rattle.law_names.proofs.Changed.{at_root, at_ino, at_other, same_rows, Where, is_root, is_here, elsewhere, where_is}
use Rattle.law_names.proofs.Kept.{root_in_table, root_used, use_of_root, below, mapped_only}
use Rattle.law_names.proofs.ChangedValid.{root_paged}
use Rattle.law_names.proofs.Places.{
  IsHigh,
  high_not_inode,
  data_high,
  chain_high,
  pointer_high,
  LogPlace,
  is_head,
  is_tail,
  is_high,
  log_place,
  SaidOfInode,
  said_state,
  said_cut,
  said_log,
  said_of_inode,
}

dying_one : (b c : ℕ) → Dying b ≡ Dying c → b ≡ c
dying_one b c e = cc

live_dying : (c : ℕ) → Live ≡ Dying c → ⊥
live_dying c e = cc

free_dying : (c : ℕ) → Free ≡ Dying c → ⊥
free_dying c e = cc

-- the cut of an inode that is dying after it turned
turned_dying : (turn : Turn) (node : Inode) (c : ℕ) → (turned turn node).use_of ≡ Dying c
    → (node.use_of ≡ Dying c) ⊎ ((turn ≡ Goes) × (c ≡ pages_of (size_of node.log)))
turned_dying Stays node c e = inl e
turned_dying Comes node c e = absurd (live_dying c e)
turned_dying Goes node c e = inr (refl, sym (dying_one (pages_of (size_of node.log)) c e))

-- an empty log says that its tail is 0
nothing_said : (ino a v : ℕ) → LogSays ino no_log a v → (a ≡ inode_word ino 2) × (v ≡ 0)
unfolding count
nothing_said ino a v (at_tail place value) = (place, value)
nothing_said ino a v (at_head some place value) = absurd (omega (arith, some))
nothing_said ino a v (at_footer k lt place value) = absurd (omega (arith, lt))
nothing_said ino a v (at_slot k j lt word place value) = absurd (omega (arith, lt))

-- the log of an inode that turned says what it said before, or that the tail is 0
turned_says : (turn : Turn) (node : Inode) (ino a v : ℕ) → MayTurn turn node.use_of → IsUsed (turned turn node).use_of
    → LogSays ino (turned turn node).log a v
    → (IsUsed node.use_of × LogSays ino node.log a v) ⊎ ((turn ≡ Comes) × (a ≡ inode_word ino 2) × (v ≡ 0))
turned_says Stays node ino a v may used says = inl (used, says)
turned_says Comes node ino a v may used says = let both = nothing_said ino a v says in inr (refl, both.0, both.1)
turned_says Goes node ino a v may used says = inl (subst IsUsed (sym may) tt, says)

module _ (d : Disk) (change : NameChange) (may : MayChange d change) where
  abbrev new : Disk
  new = names_changed d change

  abbrev valid : IsValid d
  valid = may.root.valid

  abbrev here_node : Inode
  here_node = turned change.turn (d.inode change.ino)

  abbrev root_tail : ℕ
  root_tail = tail_at (root_after d change).pages (count (root_after d change))

  abbrev grown : IsGrown (d.inode 0).log (root_after d change)
  grown = record { fresh = change.fresh; more = change.more; pages = refl; items = refl }

  pub data Differs (a v : ℕ) : Type 0 where
    new_tail : a ≡ inode_word 0 2 → v ≡ root_tail → Differs a v
    new_state : a ≡ inode_word change.ino 0 → v ≡ state_number here_node.use_of → Differs a v
    rest : a ≢ inode_word 0 2 → a ≢ inode_word change.ino 0 → DiskSays d a v ⊎ FreshNames d change a v → Differs a v

  abbrev file : 1 ≤ change.ino
  file = may.file

  high_rest : (a v : ℕ) → IsHigh d.geometry a → DiskSays d a v ⊎ FreshNames d change a v → Differs a v
  high_rest a v high says = rest (high_not_inode d.geometry a 0 2 high (root_in_table d change may) (omega arith))
      (high_not_inode d.geometry a change.ino 0 high may.in_table (omega arith)) says

  head_differs : (a v : ℕ) → HeadSays d a v → Differs a v
  head_differs a v (at_magic place value) = rest (λ e. omega arith) (λ e. omega arith) (inl (of_head (at_magic place value)))
  head_differs a v (at_version place value) = rest (λ e. omega arith) (λ e. omega arith) (inl (of_head (at_version place value)))
  head_differs a v (at_pages place value) = rest (λ e. omega arith) (λ e. omega arith) (inl (of_head (at_pages place value)))
  head_differs a v (at_inodes place value) = rest (λ e. omega arith) (λ e. omega arith) (inl (of_head (at_inodes place value)))
  head_differs a v (at_gate place value) = rest (λ e. omega arith) (λ e. omega arith) (inl (of_head (at_gate place value)))

  pub head_same : (a v : ℕ) → HeadSays new a v → HeadSays d a v
  unfolding names_changed
  head_same a v (at_magic place value) = at_magic place value
  head_same a v (at_version place value) = at_version place value
  head_same a v (at_pages place value) = at_pages place value
  head_same a v (at_inodes place value) = at_inodes place value
  head_same a v (at_gate place value) = at_gate place value

  state_differs : (i a v : ℕ) → i < d.geometry.inodes → a ≡ inode_word i 0 → v ≡ state_number (new.inode i).use_of → Where d change i → Differs a v
  state_differs i a v lt place value (is_root e) = rest (λ f. omega (arith, place, f, e)) (λ f. omega (arith, place, f, e, file))
      (inl (of_inodes (at_state 0 (root_in_table d change may) (place ∙ ap (λ (j : ℕ). inode_word j 0) e)
      (value ∙ ap (λ (j : ℕ). state_number (new.inode j).use_of) e ∙ ap state_number (use_of_root d change may)))))
  state_differs i a v lt place value (is_here e) = new_state (place ∙ ap (λ (j : ℕ). inode_word j 0) e)
      (value ∙ ap (λ (j : ℕ). state_number (new.inode j).use_of) e ∙ ap (λ (n : Inode). state_number n.use_of) (at_ino d change file))
  state_differs i a v lt place value (elsewhere some ne) = rest (λ f. omega (arith, place, f)) (λ f. ne (omega (arith, place, f)))
      (inl (of_inodes (at_state i lt place (value ∙ ap (λ (n : Inode). state_number n.use_of) (at_other d change i some ne)))))

  cut_here : (a v c : ℕ) → a ≡ inode_word change.ino 3 → v ≡ c → here_node.use_of ≡ Dying c → DiskSays d a v ⊎ FreshNames d change a v
  cut_here a v c place value dying = ⊎_elim
      (λ (was : (d.inode change.ino).use_of ≡ Dying c). inl (of_inodes (at_cut change.ino c may.in_table was place value)))
      (λ (goes : (change.turn ≡ Goes) × (c ≡ pages_of (size_of (d.inode change.ino).log))). inr (in_inode
      (subst (λ (t : Turn). SaysRun (inode_word change.ino (turn_field t)) (turn_words t (d.inode change.ino).log) a v) (sym goes.0)
      (says_cut (pages_of (size_of (d.inode change.ino).log)) (value ∙ goes.1)))))
      (turned_dying change.turn (d.inode change.ino) c dying)
    where
      says_cut : (n : ℕ) → v ≡ n → SaysRun (inode_word change.ino 3) (n ∷ []) a v
      says_cut n is = let k : a - inode_word change.ino 3 ≡ 0 = omega (arith, place) in (
        (omega (arith, place), omega (arith, place)),
        is ∙ ap (slice_index (n ∷ [])) (sym k),
      )

  cut_differs : (i c a v : ℕ) → i < d.geometry.inodes → (new.inode i).use_of ≡ Dying c → a ≡ inode_word i 3 → v ≡ c → Where d change i → Differs a v
  cut_differs i c a v lt dying place value (is_root e) =
      absurd (live_dying c (sym valid.root ∙ sym (use_of_root d change may) ∙ ap (λ (j : ℕ). (new.inode j).use_of) (sym e) ∙ dying))
  cut_differs i c a v lt dying place value (is_here e) = rest (λ f. omega (arith, place, f)) (λ f. omega (arith, place, f))
      (cut_here a v c (place ∙ ap (λ (j : ℕ). inode_word j 3) e) value (ap (λ (n : Inode). n.use_of) (sym (at_ino d change file)) ∙ ap
      (λ (j : ℕ). (new.inode j).use_of) (sym e) ∙ dying))
  cut_differs i c a v lt dying place value (elsewhere some ne) = rest (λ f. omega (arith, place, f)) (λ f. omega (arith, place, f))
      (inl (of_inodes (at_cut i c lt (ap (λ (n : Inode). n.use_of) (sym (at_other d change i some ne)) ∙ dying) place value)))

  inodes_differ : (a v : ℕ) → InodesSay new a v → Differs a v
  inodes_differ a v (at_state i lt place value) = state_differs i a v (below d change may i lt) place value (where_is d change i)
  inodes_differ a v (at_cut i c lt dying place value) = cut_differs i c a v (below d change may i lt) dying place value (where_is d change i)

  -- a word of another inode's log is none of those that change
  file_log_differs : (i a v : ℕ) → 1 ≤ i → i < d.geometry.inodes → LogPlace d.geometry i a → DiskSays d a v ⊎ FreshNames d change a v → Differs a v
  file_log_differs i a v some lt (is_head e) says = rest (λ f. omega (arith, e, f)) (λ f. omega (arith, e, f)) says
  file_log_differs i a v some lt (is_tail e) says = rest (λ f. omega (arith, e, f, some)) (λ f. omega (arith, e, f)) says
  file_log_differs i a v some lt (is_high high) says = high_rest a v high says

  paged_before : (i : ℕ) → i < d.geometry.inodes → IsUsed (d.inode i).use_of → IsPaged d.geometry (d.inode i).log
  paged_before i lt used = (valid.logs i lt used).paged

  root_place_rest : (a v : ℕ) → a ≢ inode_word 0 2 → LogPlace d.geometry 0 a → DiskSays d a v ⊎ FreshNames d change a v → Differs a v
  root_place_rest a v ne (is_head e) says = rest ne (λ f. omega (arith, e, f)) says
  root_place_rest a v ne (is_tail e) says = absurd (ne e)
  root_place_rest a v ne (is_high high) says = high_rest a v high says

  root_differs : (a v : ℕ) → LogSays 0 (root_after d change) a v → Differs a v
  root_differs a v says = elim (not_tail d.geometry 0 (root_after d change) a v (root_paged d change may) (root_in_table d change may) says) [
    | inl tail ↦ new_tail tail.place tail.value
    | inr ne ↦ root_place_rest a v ne (log_place d.geometry 0 (root_after d change) a v (root_paged d change may) says) (⊎_elim
        (λ (tail : IsTail 0 (root_after d change) a v). absurd (ne tail.place))
        (λ (told : LogSays 0 (d.inode 0).log a v ⊎ Prepared 0 (d.inode 0).log (root_after d change) a v). ⊎_elim
        (λ (before : LogSays 0 (d.inode 0).log a v). inl
        (of_logs (record { ino = 0; in_table = root_in_table d change may; used = root_used d change may; says = before })))
        (λ (prepared : Prepared 0 (d.inode 0).log (root_after d change) a v). inr (in_root prepared)) told)
        (says-grown d.geometry 0 (d.inode 0).log (root_after d change) grown (paged_before 0 (root_in_table d change may) (root_used d change may)) a
        v says))
  ]

  here_differs : (a v : ℕ) → IsUsed here_node.use_of → LogSays change.ino here_node.log a v → Differs a v
  here_differs a v used says = ⊎_elim
      (λ (was : IsUsed (d.inode change.ino).use_of × LogSays change.ino (d.inode change.ino).log a v).
      file_log_differs change.ino a v file may.in_table (log_place d.geometry change.ino (d.inode change.ino).log a v
      (paged_before change.ino may.in_table was.0) was.1)
      (inl (of_logs (record { ino = change.ino; in_table = may.in_table; used = was.0; says = was.1 }))))
      (λ (comes : (change.turn ≡ Comes) × (a ≡ inode_word change.ino 2) × (v ≡ 0)).
      rest (λ f. omega (arith, comes.1, f, file)) (λ f. omega (arith, comes.1, f)) (inr (in_inode
      (subst (λ (t : Turn). SaysRun (inode_word change.ino (turn_field t)) (turn_words t (d.inode change.ino).log) a v) (sym comes.0)
      (says_cleared comes.1 comes.2)))))
      (turned_says change.turn (d.inode change.ino) change.ino a v may.may_turn used says)
    where
      says_cleared : a ≡ inode_word change.ino 2 → v ≡ 0 → SaysRun (inode_word change.ino 1) (0 ∷ 0 ∷ 0 ∷ []) a v
      says_cleared place value = let k : a - inode_word change.ino 1 ≡ 1 = omega (arith, place) in (
        (omega (arith, place), omega (arith, place)),
        value ∙ ap (slice_index (0 ∷ 0 ∷ 0 ∷ [])) (sym k),
      )

  log_differs : (i a v : ℕ) → i < d.geometry.inodes → IsUsed (new.inode i).use_of → LogSays i (new.inode i).log a v → Where d change i → Differs a v
  log_differs i a v lt used says (is_root e) =
      root_differs a v (subst (λ (n : Inode). LogSays 0 n.log a v) (at_root d change) (subst (λ (j : ℕ). LogSays j (new.inode j).log a v) e says))
  log_differs i a v lt used says (is_here e) =
      let node : new.inode i ≡ here_node = ap new.inode e ∙ at_ino d change file in
      here_differs a v (subst (λ (n : Inode). IsUsed n.use_of) node used) (subst (λ (j : ℕ). LogSays j here_node.log a v) e
      (subst (λ (n : Inode). LogSays i n.log a v) node says))
  log_differs i a v lt used says (elsewhere some ne) =
      let was_used : IsUsed (d.inode i).use_of = subst (λ (n : Inode). IsUsed n.use_of) (at_other d change i some ne) used in
      let before : LogSays i (d.inode i).log a v = subst (λ (n : Inode). LogSays i n.log a v) (at_other d change i some ne) says in
      file_log_differs i a v some lt (log_place d.geometry i (d.inode i).log a v (paged_before i lt was_used) before)
      (inl (of_logs (record { ino = i; in_table = lt; used = was_used; says = before })))

  chains_same : (a v : ℕ) → ChainsSay new a v → ChainsSay d a v
  unfolding names_changed
  chains_same a v told = record { prefix = told.prefix; direct = told.direct; says = told.says }

  pointers_same : (a v : ℕ) → PointersSay new a v → PointersSay d a v
  unfolding names_changed
  pointers_same a v told = record { page = told.page; in_image = told.in_image; place = told.place; value = told.value }

  read_before : (page : ℕ) → IsReadPage new page → IsReadPage d page
  read_before page read = ⊎_elim (λ (mapped : IsMapped new page). inl (mapped_only d change may page mapped))
      (λ (row : IsSome (row_of (rows new) page)). inr (subst (λ (rs : List Row). IsSome (row_of rs page)) (same_rows d change) row)) read

  words_same : (page k v : ℕ) → v ≡ new.word page k → v ≡ d.word page k
  unfolding names_changed
  words_same page k v value = value

  pub changed_differs : (a v : ℕ) → DiskSays new a v → Differs a v
  changed_differs a v (of_head told) = head_differs a v (head_same a v told)
  changed_differs a v (of_inodes told) = inodes_differ a v told
  changed_differs a v (of_logs told) = log_differs told.ino a v (below d change may told.ino told.in_table) told.used told.says
      (where_is d change told.ino)
  changed_differs a v (of_chains told) = let was = chains_same a v told in high_rest a v (chain_high d.geometry was.prefix (d.chain was.prefix) a v
      was.says) (inl (of_chains was))
  changed_differs a v (of_pointers told) = let was = pointers_same a v told in high_rest a v (pointer_high d.geometry was.page a was.place)
      (inl (of_pointers was))
  changed_differs a v (of_pages told) =
      let read : IsReadPage d told.page = read_before told.page told.read in
      high_rest a v (data_high d.geometry told.page told.k a (read_in_data d valid told.page read) told.place)
      (inl (of_pages (record {
        page = told.page;
        k = told.k;
        in_page = told.in_page;
        read = read;
        place = told.place;
        value = words_same told.page
            told.k v told.value;
      })))

  -- nothing is said of the fresh words before
  turn_unsaid : (turn : Turn) (a v w : ℕ) → MayTurn turn (d.inode change.ino).use_of → SaysRun (inode_word change.ino (turn_field turn))
      (turn_words turn (d.inode change.ino).log) a v → DiskSays d a w → ⊥
  turn_unsaid Stays a v w turns told says = omega (arith, told.0.0, told.0.1)
  turn_unsaid Comes a v w turns told says = by_said (said_of_inode d valid change.ino (a - inode_word change.ino 0) a w may.in_table
      (omega (arith, told.0.0, told.0.1)) (omega (arith, told.0.0)) says)
    where
      by_said : SaidOfInode d change.ino (a - inode_word change.ino 0) → ⊥
      by_said (said_state zero_field) = omega (arith, told.0.0, zero_field)
      by_said (said_cut c dying) = free_dying c (sym turns ∙ dying)
      by_said (said_log used low) = subst IsUsed turns used
  turn_unsaid Goes a v w turns told says = by_said (said_of_inode d valid change.ino 3 a w may.in_table (omega arith)
      (omega (arith, told.0.0, told.0.1)) says)
    where
      by_said : SaidOfInode d change.ino 3 → ⊥
      by_said (said_state zero_field) = omega (arith, zero_field)
      by_said (said_cut c dying) = live_dying c (sym turns ∙ dying)
      by_said (said_log used low) = omega (arith, low)

  pub fresh_unsaid : (a v w : ℕ) → FreshNames d change a v → DiskSays d a w → ⊥
  fresh_unsaid a v w (in_root prepared) says =
      prepared_unsaid d valid 0 (root_in_table d change may) valid.root (root_after d change) grown (root_paged d change may) may.root.fresh_unused a
      v w prepared says
  fresh_unsaid a v w (in_inode told) says = turn_unsaid change.turn a v w may.may_turn told says
