-- A file is created, written, written over and removed: each step by the laws of its change.
use Rattle.std.proofs.Common.{
  ◌≡◌,
  ◌≢◌,
  inl,
  inr,
  ⊎_elim,
  ℕ,
  zero,
  suc,
  ◌+◌,
  ◌/◌,
  ◌<◌,
  ◌≤◌,
  max,
  Bool,
  true,
  false,
  List,
  [],
  ◌∷◌,
  ◌++◌,
  length,
  refl,
  sym,
  ◌∙◌,
  ap,
  subst,
  arith,
}
use Rattle.std.specs.Prelude.{if◌then◌else◌, slice_index, Contains, Some, None, IsSome, IsNone}
use Rattle.std.specs.Option.{option_map}
use Rattle.std.proofs.lemmas.Bool.{cases_eq}
use Rattle.pm_layout.specs.declared.Geometry.{Geometry}
use Rattle.pm_layout.specs.Geometry.{InData}
use Rattle.log_entry.specs.Name.{same_name}
use Rattle.log_entry.specs.Spelling.{spelling, spelled, more_count}
use Rattle.log_entry.specs.declared.item.LogItem.TheVariants.{Add, Forget}
use Rattle.log_entry.proofs.SameName.{same_name-same}
use Rattle.log_entry.proofs.Spelled.{length-spelled-cons}
use Rattle.log_entry.proofs.Words.{length-more_slots}
use Rattle.dn_model.specs.Log.{Log, no_log, count}
use Rattle.dn_model.specs.Table.{Row, row_of}
use Rattle.dn_model.specs.Disk.{Disk, Inode, Free, Live, rows}
use Rattle.dn_model.specs.Counts.{mappings, IsFree}
use Rattle.dn_model.specs.Files.{bytes, named, files, IsSameFiles}
use Rattle.dn_model.specs.Apply.{written, bytes_or_none, after_op}
use Rattle.dn_model.specs.Valid.{IsValid}
use Rattle.dn_model.specs.Own.{Print, IsOwn}
use Rattle.dn_model.specs.declared.op.Op.TheVariants.{Create, Write, Remove}
use Rattle.law_write.specs.Events.{IsUnused}
use Rattle.law_write.specs.Writing.{Writes}
use Rattle.law_write.specs.Runs.{run_items}
use Rattle.law_write.specs.WithLog.{grown_log}
use Rattle.law_write.proofs.WithLog.{with_log-log, with_log-other, with_log-word}
use Rattle.law_write.proofs.WriteValid.{rows_kept}
use Rattle.law_table.proofs.Rows.{some_or_none, listed_cases}
use Rattle.law_names.specs.NameChange.{NameChange, MayChange, ChangesNames}
use Rattle.law_names.specs.Keeping.{KeepsData}
use Rattle.law_names.specs.Operations.{creation, removal, MayCreate, MayRemove}
use Rattle.law_names.proofs.Links.{with_name-here}
use Rattle.dn_model.specs.Empty.{empty_inode, empty_disk}
use Rattle.recovery.proofs.EmptyDisk.{count-none, unread}
use Rattle.law_example.specs.Life.{
  Life,
  IsLife,
  Lives,
  HoldsBytes,
  first_text,
  second_text,
  first_file,
  on_page,
  empty,
  created,
  appended,
  overwritten,
  removed,
  pages_of_life,
}
use Rattle.law_example.proofs.Laws.{Laws}
use Rattle.law_example.proofs.PageWrite.{
  MayPutPage,
  is_write,
  put_valid,
  put_own,
  put_bytes,
  put_files,
  put_free,
  put_frees,
  put_length,
  put_maps,
  put_named,
}

single : (x p : ℕ) → Contains (x ∷ []) p → x ≡ p
single x p has = ⊎_elim (λ (e : x ≡ p). e) (λ (none : Contains [] p). absurd (omega (arith, none.1))) (listed_cases x [] p has)

-- the slots of a name
add_slots : (ino : ℕ) (name : List ℕ) → length name ≤ 255 → (1 ≤ length (spelled (Add ino name ∷ []))) × (length (spelled (Add ino name ∷ [])) ≤ 5)
unfolding spelling
add_slots ino name few =
    let long = length-spelled-cons (Add ino name) [] in let more = length-more_slots name 5 (more_count name) in
    (omega (arith, long), omega (arith, long, more, few))

forget_slots : (name : List ℕ) → length name ≤ 255 → (1 ≤ length (spelled (Forget name ∷ []))) × (length (spelled (Forget name ∷ [])) ≤ 5)
unfolding spelling
forget_slots name few =
    let long = length-spelled-cons (Forget name) [] in let more = length-more_slots name 5 (more_count name) in
    (omega (arith, long), omega (arith, long, more, few))

-- a log of one item
root_count : (page ino : ℕ) (name : List ℕ) → count (grown_log no_log (page ∷ []) (Add ino name ∷ [])) ≡ length (spelled (Add ino name ∷ []))
unfolding count
root_count page ino name = refl

file_count : (page size block : ℕ) → count (grown_log no_log (page ∷ []) (run_items (on_page block) size)) ≡ 1
unfolding count spelling
file_count page size block = refl

module _ (laws : Laws) (print : Print) (life : Life) (is : IsLife life) where
  abbrev g : Geometry
  g = life.geometry

  abbrev e : Disk
  e = empty life

  abbrev name : List ℕ
  name = life.name

  abbrev ino : ℕ
  ino = life.ino

  abbrev pages : List ℕ
  pages = pages_of_life life is.spare is.other

  e_valid : IsValid e
  e_valid = laws.empty_valid g is.accepted

  e_free : (page : ℕ) → InData g page → IsFree e page
  e_free page in_data = record { data_page = in_data; in_no_log = λ p. none p.ino p.listed; unmapped = unmapped }
    where
      none : (i : ℕ) → Contains (empty_inode i).log.pages page → ⊥
      none zero has = omega (arith, has.1)
      none (suc i) has = omega (arith, has.1)

      unmapped : mappings (empty_disk g) page ≡ 0
      unmapped = elim (cases_eq (mappings (empty_disk g) page) 0) [
        | inl zero_places ↦ zero_places
        | inr some ↦ absurd (unread g page (inl ((laws.counted (empty_disk g) page).1 (omega (arith, some)))))
      ]

  e_no_row : (page : ℕ) → IsNone (row_of (rows e) page)
  e_no_row page = ⊎_elim (λ (row : IsSome (row_of (rows e) page)). absurd (unread g page (inr row))) (λ (none : IsNone (row_of (rows e) page)). none)
      (some_or_none (row_of (rows e) page))

  apart : (j k : ℕ) → j < 6 → k < 6 → j ≢ k → slice_index pages j ≢ slice_index pages k
  apart j k jl kl ne same = ne (is.apart j k jl kl same)

  -- not a page of a list of one
  not_in : (x p : ℕ) → p ≢ x → Contains (x ∷ []) p → ⊥
  not_in x p ne has = ne (sym (single x p has))

  -- the creation
  e_unused_free : (i : ℕ) → 1 ≤ i → (empty_inode i).use_of ≡ Free
  e_unused_free zero some = absurd (omega (arith, some))
  e_unused_free (suc i) some = refl

  unnamed : named e name ≡ None
  unfolding named
  unnamed = refl

  creates : MayCreate e name ino (life.root_page ∷ [])
  creates = record {
    root = record {
      valid = e_valid;
      fresh_unused = λ page has. subst (IsUnused e) (single life.root_page page has)
          (record { free = e_free life.root_page (is.in_data 0 (omega arith)); no_row = e_no_row life.root_page });
      fresh_apart = λ j k jl kl same. omega (arith, jl, kl);
      room = let slots = add_slots ino name is.legal.few in omega (arith, count-none, slots.0, slots.1);
      left = (
        is.spare,
        is.other,
        apart 4 5 (omega arith) (omega arith) (omega arith),
        record {
          free = e_free is.spare (is.in_data 4 (omega arith));
          not_fresh = not_in life.root_page is.spare
              (apart 4 0 (omega arith) (omega arith) (omega arith));
        },
        record {
          free = e_free is.other (is.in_data 5 (omega arith));
          not_fresh = not_in life.root_page is.other
              (apart 5 0 (omega arith) (omega arith) (omega arith));
        },
      );
    };
    legal = is.legal;
    unnamed = unnamed;
    file = is.file;
    in_table = is.in_table;
    free = e_unused_free ino is.file;
  }

  abbrev creating : NameChange
  creating = creation name ino (life.root_page ∷ [])

  may_create_it : MayChange e creating
  may_create_it = laws.may_create e name ino (life.root_page ∷ []) creates

  abbrev c : Disk
  c = created life

  c_parts : ChangesNames e creating c
  c_parts = laws.names_parts e creating is.file

  c_keeps : KeepsData e c (life.root_page ∷ [])
  c_keeps = laws.names_keep e creating may_create_it

  c_valid : IsValid c
  c_valid = laws.names_valid e creating may_create_it

  c_own : IsOwn print c
  c_own = laws.names_own print e creating may_create_it (laws.empty_own g print)

  c_named : named c name ≡ Some ino
  c_named = laws.creations_name e name ino (life.root_page ∷ []) creates name ∙ with_name-here (named e) name (Some ino)

  c_inode : c.inode ino ≡ record { use_of = Live; log = no_log }
  c_inode = c_parts.here

  c_root : (c.inode 0).log ≡ grown_log no_log (life.root_page ∷ []) (Add ino name ∷ [])
  c_root = ap (λ (n : Inode). n.log) c_parts.root

  c_files : IsSameFiles (files c) (after_op (files e) (Create name))
  c_files = laws.creations_create e name ino (life.root_page ∷ []) creates

  c_bytes : bytes c ino ≡ []
  c_bytes = one (bytes c ino) [] (ap (option_map (bytes c)) (sym c_named) ∙ c_files name ∙ ap (λ (b : Bool). if b then Some [] else files e name)
      (same_name-same name))
    where
      one : (xs ys : List ℕ) → Some xs ≡ Some ys → xs ≡ ys
      one xs ys same = cc

  c_table : ino < c.geometry.inodes
  c_table = omega (arith, is.in_table, ap (λ (x : Geometry). x.inodes) c_parts.geometry)

  c_live : (c.inode ino).use_of ≡ Live
  c_live = ap (λ (n : Inode). n.use_of) c_inode

  c_free : (page : ℕ) → InData g page → page ≢ life.root_page → IsFree c page
  c_free page in_data ne = c_keeps.free_kept page (e_free page in_data) (not_in life.root_page page ne)

  c_no_row : (page : ℕ) → IsNone (row_of (rows c) page)
  c_no_row page = subst (λ (rs : List Row). IsNone (row_of rs page)) (sym c_keeps.rows_same) (e_no_row page)

  c_free_at : (k : ℕ) → k < 6 → k ≢ 0 → IsFree c (slice_index pages k)
  c_free_at k lt ne = c_free (slice_index pages k) (is.in_data k lt) (apart k 0 lt (omega arith) ne)

  -- the first write
  appends : MayPutPage c ino (life.log_page ∷ []) (length (first_text life)) (first_text life) life.first_page life.first_word
  appends = record {
    valid = c_valid;
    no_rows = λ p. c_parts.chain p;
    file = is.file;
    in_table = c_table;
    live = c_live;
    size_is = long (length (bytes c ino)) (length (first_text life)) (ap length c_bytes);
    some = omega arith;
    short = is.first_short;
    short_before = omega (arith, ap length c_bytes);
    unused = record { free = c_free_at 2 (omega arith) (omega arith); no_row = c_no_row life.first_page };
    fresh_unused = λ p has. subst (IsUnused c) (single life.log_page p has)
        (record { free = c_free_at 1 (omega arith) (omega arith); no_row = c_no_row life.log_page });
    fresh_apart = λ j k jl kl same. omega (arith, jl, kl);
    not_fresh = not_in life.log_page life.first_page (apart 2 1 (omega arith) (omega arith) (omega arith));
    room = subst (λ (n : Inode). length (n.log.pages ++ life.log_page ∷ []) ≡ (count n.log + 1 + 62) / 63) (sym c_inode) (omega (arith, count-none));
    elsewhere = λ p k ne. is.first_elsewhere p k ne ∙ sym (c_parts.word p k);
    holds = subst (λ (old : List ℕ). HoldsBytes life.first_word life.first_page (written old 0 (first_text life))) (sym c_bytes) is.first_holds;
    zeros = λ idx k m at small past. c_own.zeros ino idx k m (record { in_table = c_table; live = c_live; maps = at }) past small;
    spare = is.spare;
    other = is.other;
    two = apart 4 5 (omega arith) (omega arith) (omega arith);
    spare_free = c_free_at 4 (omega arith) (omega arith);
    other_free = c_free_at 5 (omega arith) (omega arith);
    spare_left = (
      apart 4 2 (omega arith) (omega arith) (omega arith),
      not_in life.log_page is.spare
          (apart 4 1 (omega arith) (omega arith) (omega arith)),
    );
    other_left = (
      apart 5 2 (omega arith) (omega arith) (omega arith),
      not_in life.log_page is.other
          (apart 5 1 (omega arith) (omega arith) (omega arith)),
    );
  }
    where
      long : (a n : ℕ) → a ≡ 0 → n ≡ max a n
      long a n none = omega arith

  abbrev a : Disk
  a = appended life

  abbrev first_size : ℕ
  first_size = length (first_text life)

  abbrev first_event : Writes ino c a
  first_event = (is_write laws c ino (life.log_page ∷ []) first_size life.first_byte life.first_rest life.first_page life.first_word appends).event

  a_log : (a.inode ino).log ≡ grown_log no_log (life.log_page ∷ []) (run_items (on_page life.first_page) first_size)
  a_log = with_log-log c ino (grown_log (c.inode ino).log (life.log_page ∷ []) (run_items (on_page life.first_page) first_size)) life.first_word
      ∙ ap (λ (n : Inode). grown_log n.log (life.log_page ∷ []) (run_items (on_page life.first_page) first_size)) c_inode

  a_valid : IsValid a
  a_valid = put_valid laws c ino (life.log_page ∷ []) first_size life.first_byte life.first_rest life.first_page life.first_word appends

  a_own : IsOwn print a
  a_own = put_own laws c ino (life.log_page ∷ []) first_size life.first_byte life.first_rest life.first_page life.first_word appends print c_own

  a_bytes : bytes a ino ≡ first_file life
  a_bytes = put_bytes laws c ino (life.log_page ∷ []) first_size life.first_byte life.first_rest life.first_page life.first_word appends ∙ ap
      (λ (old : List ℕ). written old 0 (first_text life)) c_bytes

  a_length : length (bytes a ino) ≡ first_size
  a_length = put_length laws c ino (life.log_page ∷ []) first_size life.first_byte life.first_rest life.first_page life.first_word appends

  a_named : named a name ≡ Some ino
  a_named = put_named laws c ino (life.log_page ∷ []) first_size life.first_byte life.first_rest life.first_page life.first_word appends
      name ∙ c_named

  a_table : ino < a.geometry.inodes
  a_table = omega (arith, c_table, ap (λ (x : Geometry). x.inodes) first_event.relogs.geometry)

  a_live : (a.inode ino).use_of ≡ Live
  a_live = first_event.relogs.same_use ∙ c_live

  a_no_row : (page : ℕ) → IsNone (row_of (rows a) page)
  a_no_row page = subst (λ (rs : List Row). IsNone (row_of rs page)) (sym (rows_kept ino c a first_event)) (c_no_row page)

  a_free_at : (k : ℕ) → k < 6 → 3 ≤ k → IsFree a (slice_index pages k)
  a_free_at k lt high = put_free laws c ino (life.log_page ∷ []) first_size life.first_byte life.first_rest life.first_page life.first_word appends
      (slice_index pages k)
      (c_free_at k lt (omega (arith, high))) (apart k 2 lt (omega arith) (omega (arith, high)))
      (not_in life.log_page (slice_index pages k) (apart k 1 lt (omega arith) (omega (arith, high))))

  -- the second write
  abbrev second_size : ℕ
  second_size = max (length (first_text life)) (length (second_text life))

  none_in : (p : ℕ) → Contains [] p → ⊥
  none_in p has = omega (arith, has.1)

  overwrites : MayPutPage a ino [] second_size (second_text life) life.second_page life.second_word
  overwrites = record {
    valid = a_valid;
    no_rows = λ p. first_event.relogs.chain p ∙ c_parts.chain p;
    file = is.file;
    in_table = a_table;
    live = a_live;
    size_is = ap (λ (n : ℕ). max n (length (second_text life))) (sym a_length);
    some = omega arith;
    short = is.second_short;
    short_before = omega (arith, a_length, is.first_short);
    unused = record { free = a_free_at 3 (omega arith) (omega arith); no_row = a_no_row life.second_page };
    fresh_unused = λ p has. absurd (none_in p has);
    fresh_apart = λ j k jl kl same. omega (arith, jl);
    not_fresh = none_in life.second_page;
    room = subst (λ (l : Log). length (l.pages ++ []) ≡ (count l + 1 + 62) / 63) (sym a_log)
        (omega (arith, file_count life.log_page first_size life.first_page));
    elsewhere = λ p k ne. is.second_elsewhere p k ne ∙ sym (with_log-word c ino _ life.first_word p k);
    holds = subst (λ (old : List ℕ). HoldsBytes life.second_word life.second_page (written old 0 (second_text life))) (sym a_bytes) is.second_holds;
    zeros = λ idx k m at small past. a_own.zeros ino idx k m (record { in_table = a_table; live = a_live; maps = at }) past small;
    spare = is.spare;
    other = is.other;
    two = apart 4 5 (omega arith) (omega arith) (omega arith);
    spare_free = a_free_at 4 (omega arith) (omega arith);
    other_free = a_free_at 5 (omega arith) (omega arith);
    spare_left = (apart 4 3 (omega arith) (omega arith) (omega arith), none_in is.spare);
    other_left = (apart 5 3 (omega arith) (omega arith) (omega arith), none_in is.other);
  }

  abbrev o : Disk
  o = overwritten life

  o_valid : IsValid o
  o_valid = put_valid laws a ino [] second_size life.second_byte life.second_rest life.second_page life.second_word overwrites

  o_own : IsOwn print o
  o_own = put_own laws a ino [] second_size life.second_byte life.second_rest life.second_page life.second_word overwrites print a_own

  o_named : named o name ≡ Some ino
  o_named = put_named laws a ino [] second_size life.second_byte life.second_rest life.second_page life.second_word overwrites name ∙ a_named

  o_free_at : (k : ℕ) → k < 6 → 4 ≤ k → IsFree o (slice_index pages k)
  o_free_at k lt high = put_free laws a ino [] second_size life.second_byte life.second_rest life.second_page life.second_word overwrites
      (slice_index pages k)
      (a_free_at k lt (omega (arith, high))) (apart k 3 lt (omega arith) (omega (arith, high))) (none_in (slice_index pages k))

  -- the page of the first write is free
  first_freed : IsFree o life.first_page
  first_freed =
      let at = put_maps laws c ino (life.log_page ∷ []) first_size life.first_byte life.first_rest life.first_page life.first_word appends in
      subst (IsFree o) at.2 (put_frees laws a ino [] second_size life.second_byte life.second_rest life.second_page life.second_word overwrites at.0
      at.1 (a_no_row at.0.block))

  not_root : 0 ≢ ino
  not_root same = omega (arith, same, is.file)

  o_root : (o.inode 0).log ≡ grown_log no_log (life.root_page ∷ []) (Add ino name ∷ [])
  o_root = ap (λ (n : Inode). n.log) (with_log-other a ino _ life.second_word 0 not_root ∙ with_log-other c ino _ life.first_word 0 not_root) ∙ c_root

  -- the removal
  removes : MayRemove o name ino []
  removes = record {
    root = record {
      valid = o_valid;
      fresh_unused = λ p has. absurd (none_in p has);
      fresh_apart = λ j k jl kl same. omega (arith, jl);
      room = subst (λ (l : Log). length (l.pages ++ []) ≡ (count l + length (spelled (Forget name ∷ [])) + 62) / 63) (sym o_root)
          (let added = add_slots ino name is.legal.few in let gone = forget_slots name is.legal.few in
          omega (arith, root_count life.root_page ino name, added.0, added.1, gone.0, gone.1));
      left = (
        is.spare,
        is.other,
        apart 4 5 (omega arith) (omega arith) (omega arith),
        record { free = o_free_at 4 (omega arith) (omega arith); not_fresh = none_in is.spare },
        record { free = o_free_at 5 (omega arith) (omega arith); not_fresh = none_in is.other },
      );
    };
    legal = is.legal;
    leads = o_named;
  }

  abbrev removing : NameChange
  removing = removal name ino []

  may_remove_it : MayChange o removing
  may_remove_it = laws.may_remove o name ino [] removes

  a_files : IsSameFiles (files a) (after_op (files c) (Write name 0 (first_text life)))
  a_files = put_files laws c ino (life.log_page ∷ []) first_size life.first_byte life.first_rest life.first_page life.first_word appends name c_named

  o_files : IsSameFiles (files o) (after_op (files a) (Write name 0 (second_text life)))
  o_files = put_files laws a ino [] second_size life.second_byte life.second_rest life.second_page life.second_word overwrites name a_named

  r_files : IsSameFiles (files (removed life)) (after_op (files o) (Remove name))
  r_files = laws.removals_remove o name ino [] removes

  none_after : (other : List ℕ) → files (removed life) other ≡ None
  none_after other = r_files other ∙ by_test (same_name name other) refl
    where
      elsewhere : same_name name other ≡ false → files o other ≡ None
      elsewhere t =
          o_files other ∙ ap (λ (b : Bool). if b then Some (written (bytes_or_none (files a name)) 0 (second_text life)) else files a other) t
          ∙ a_files other ∙ ap (λ (b : Bool). if b then Some (written (bytes_or_none (files c name)) 0 (first_text life)) else files c other) t
          ∙ c_files other ∙ ap (λ (b : Bool). if b then Some [] else files e other) t ∙ laws.no_files g other

      by_test : (b : Bool) → same_name name other ≡ b → (if b then None else files o other) ≡ None
      by_test true t = refl
      by_test false t = elsewhere t

  pub lives : Lives print life
  lives = record {
    creates = record { valid = c_valid; own = c_own; files_are = c_files };
    appends = record { valid = a_valid; own = a_own; files_are = a_files };
    overwrites = record { valid = o_valid; own = o_own; files_are = o_files };
    removes = record {
      valid = laws.names_valid o removing may_remove_it;
      own = laws.names_own print o removing may_remove_it o_own;
      files_are = r_files;
    };
    first_freed = first_freed;
    none_before = laws.no_files g;
    none_after = none_after;
  }
