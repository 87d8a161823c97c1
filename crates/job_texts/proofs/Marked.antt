-- Marks of mapped pages.
use Rattle.std.proofs.Common.{◌≡◌, ◌≢◌, ℕ, zero, suc, ◌+◌, ◌<◌, ◌≤◌, Bool, true, false, List, ◌∷◌, length, get_or, set, Option, Some, None, refl, sym, ◌∙◌, ap, subst, inl, inr, ⊎_elim, arith, length-set, get_or-set_same, get_or-set_other}
use Rattle.std.specs.Prelude.{◌⊎◌, ◌↔◌, ◌==◌, if◌then◌else◌, IfSome, IsSome, slice_get, count_by, replicate}
use Rattle.std.specs.Ordering.{nat_cmp}
use Rattle.std.specs.FinMap.{FinMap, get}
use Rattle.std.specs.Option.{option_map}
use Rattle.std.proofs.lemmas.Bool.{cases_eq, cases_lt}
use Rattle.std.proofs.lemmas.List.{length-replicate}
use Rattle.std.proofs.lemmas.List.Recursion.{is_count_by}
use Rattle.file_index.specs.declared.page_map.Mapping.{Mapping}
use Rattle.file_content.specs.Overwritten.{IsBlockOf}
use Rattle.file_content.specs.Content.{kept}
use Rattle.pm_device.specs.State.{State}
use Rattle.dn_model.specs.Maps.{Mapping as DiskMapping}
use Rattle.dn_model.specs.Disk.{Disk, MapsTo, maps}
use Rattle.dn_model.specs.Counts.{total, mappings}
use Rattle.dn_model.specs.Numbers.{mapped_in}
use Rattle.law_unique.proofs.Counted.{counts_mappings}
use Rattle.law_table.proofs.Rows.{same_test, other_test}
use Rattle.law_write.proofs.Counting.{total-same}
use Rattle.image_uses.proofs.Twice.{mapped_inside}
use Rattle.dn_volume.specs.declared.volume.InodeState.{InodeState}
use Rattle.dn_volume.specs.declared.volume.Parts.{Parts}
use Rattle.dn_volume.specs.Agrees.{IsVolume}
use Rattle.job_texts.specs.Marks.{IsInside, IsBlockWithin, IsSet, MarksBlocks, MarksMapped}

-- ---- the marks of one file

none_set : (page n : ℕ) → get_or (replicate n false) page false ≡ false
none_set page zero = refl
none_set zero (suc n) = refl
none_set (suc page) (suc n) = none_set page n

true_false : true ≡ false → ⊥
true_false e = cc

pub unset : (n page : ℕ) → IsSet (replicate n false) page → ⊥
unset n page is = true_false (sym is ∙ none_set page n)

module _ (map : FinMap nat_cmp Mapping) (marks : List Bool) where
  -- a place that isn't mapped
  pub marks_none : (place : ℕ) → get map place ≡ None → MarksBlocks map place (place + 1) marks marks
  marks_none place none = record {
    long = refl;
    each = λ page. ((λ is. inl is), (λ is. elim is [ inl old ↦ old | inr w ↦ absurd (no_block page w) ]));
  }
    where
      no_block : (page : ℕ) → IsBlockWithin map place (place + 1) page → ⊥
      no_block page w =
          let at : w.place ≡ place = omega (arith, w.from, w.below) in
          subst (λ (o : Option Mapping). IsBlockOf o page) (ap (get map) at ∙ none) w.block

  -- one that is
  pub marks_one : (place : ℕ) (m : Mapping) → get map place ≡ Some m → m.block < length marks
      → MarksBlocks map place (place + 1) marks (set marks m.block true)
  marks_one place m is inside = record {
    long = length-set marks m.block true;
    each = λ page. (there page, (λ by. elim by [ inl old ↦ old_set page old | inr w ↦ new_set page w ]));
  }
    where
      there : (page : ℕ) → IsSet (set marks m.block true) page → IsSet marks page ⊎ IsBlockWithin map place (place + 1) page
      there page new = elim (cases_eq page m.block) [
        | inl e ↦ inr (record {
          place = place;
          from = omega arith;
          below = omega arith;
          block = subst (λ (o : Option Mapping). IsBlockOf o page) (sym is) (sym e);
        })
        | inr ne ↦ inl (sym (get_or-set_other marks m.block page true false ne) ∙ new)
      ]

      old_set : (page : ℕ) → IsSet marks page → IsSet (set marks m.block true) page
      old_set page old = elim (cases_eq page m.block) [
        | inl e ↦ ap (λ (p : ℕ). get_or (set marks m.block true) p false) e ∙ get_or-set_same marks m.block true false inside
        | inr ne ↦ get_or-set_other marks m.block page true false ne ∙ old
      ]

      new_set : (page : ℕ) → IsBlockWithin map place (place + 1) page → IsSet (set marks m.block true) page
      new_set page w =
          let at : w.place ≡ place = omega (arith, w.from, w.below) in
          let here : m.block ≡ page = subst (λ (o : Option Mapping). IsBlockOf o page) (ap (get map) at ∙ is) w.block in
          ap (λ (p : ℕ). get_or (set marks m.block true) p false) (sym here) ∙ get_or-set_same marks m.block true false inside

  -- nothing yet
  pub marks_empty : (end : ℕ) → MarksBlocks map end end marks marks
  marks_empty end = record {
    long = refl;
    each = λ page. ((λ is. inl is), (λ by. elim by [ inl old ↦ old | inr w ↦ absurd (omega (arith, w.from, w.below)) ]));
  }

module _ (map : FinMap nat_cmp Mapping) (end last : ℕ) (old mid : List Bool) (behind : MarksBlocks map end last old mid) where
  no_block : (k page : ℕ) → get map k ≡ None → IsBlockOf (get map k) page → ⊥
  no_block k page none block = subst (λ (o : Option Mapping). IsBlockOf o page) none block

  -- one place more, behind which nothing is mapped up to those
  pub marks_further : (place : ℕ) (new : List Bool) → place < end → end ≤ last → MarksBlocks map place (place + 1) mid new
      → ((k : ℕ) → place < k → k < end → get map k ≡ None) → MarksBlocks map place last old new
  marks_further place new below within here none = record {
    long = here.long ∙ behind.long;
    each = λ page. (
      (λ is. ⊎_elim (λ before. ⊎_elim inl (λ w. inr (wider page w)) ((behind.each page).0 before)) (λ w. inr (one page w)) ((here.each page).0 is)),
      (λ by. elim by [ inl was ↦ (here.each page).1 (inl ((behind.each page).1 (inl was))) | inr w ↦ by_place page w (cases_lt place w.place) ]),
    );
  }
    where
      wider : (page : ℕ) → IsBlockWithin map end last page → IsBlockWithin map place last page
      wider page w = record { place = w.place; from = omega (arith, w.from, below); below = w.below; block = w.block }

      one : (page : ℕ) → IsBlockWithin map place (place + 1) page → IsBlockWithin map place last page
      one page w = record { place = w.place; from = w.from; below = omega (arith, w.below, below, within); block = w.block }

      by_place : (page : ℕ) (w : IsBlockWithin map place last page) → (place < w.place) ⊎ (w.place ≤ place) → IsSet new page
      by_place page w (inr at) =
          (here.each page).1 (inr (record { place = w.place; from = w.from; below = omega (arith, at); block = w.block }))
      by_place page w (inl later) = (here.each page).1 (inl ((behind.each page).1 (inr (by_end (cases_lt w.place end)))))
        where
          by_end : (w.place < end) ⊎ (end ≤ w.place) → IsBlockWithin map end last page
          by_end (inl between) = absurd (no_block w.place page (none w.place later between) w.block)
          by_end (inr far) = record { place = w.place; from = far; below = w.below; block = w.block }

  -- nothing is mapped below them
  pub marks_whole : ((k : ℕ) → k < end → get map k ≡ None) → MarksBlocks map 0 last old mid
  marks_whole none = record {
    long = behind.long;
    each = λ page. (
      (λ is. ⊎_elim inl (λ w. inr (record { place = w.place; from = omega arith; below = w.below; block = w.block })) ((behind.each page).0 is)),
      (λ by. elim by [ inl was ↦ (behind.each page).1 (inl was) | inr w ↦ (behind.each page).1 (inr (by_end page w (cases_lt w.place end))) ]),
    );
  }
    where
      by_end : (page : ℕ) (w : IsBlockWithin map 0 last page) → (w.place < end) ⊎ (end ≤ w.place) → IsBlockWithin map end last page
      by_end page w (inl between) = absurd (no_block w.place page (none w.place between) w.block)
      by_end page w (inr far) = record { place = w.place; from = far; below = w.below; block = w.block }

pub some_of : {X : Type 0} (o : Option X) → IsSome o → (x : X) × (o ≡ Some x)
some_of None some = absurd (cc some)
some_of (Some x) some = (x, refl)

-- ---- the marks of all files

-- a page to which one of the first n inodes maps a place
pub record IsMappedBelow (d : Disk) (n page : ℕ) : Type 0 where
  pub ino : ℕ
  pub idx : ℕ
  pub below : ino < n
  pub maps_to : MapsTo d ino idx page

pub record MarksBelow (d : Disk) (n : ℕ) (marks : List Bool) : Type 0 where
  pub long : length marks ≡ d.geometry.pages
  pub each : (page : ℕ) → IsSet marks page ↔ IsMappedBelow d n page

-- what is kept of an inode's places is what its mappings say
module _ (d : Disk) (b : Parts) (s : State) (v : IsVolume d b s) (ino : ℕ) (n : InodeState) (at : slice_get b.inodes.items ino ≡ Some n) where
  in_table : ino < length b.inodes.items → ino < d.geometry.inodes
  in_table lt = let all = v.inodes.all in omega (arith, lt, all)

  block_of : (idx page : ℕ) → IsBlockOf (get n.map.map idx) page → (m : DiskMapping) × (maps d ino idx ≡ Some m) × (m.block ≡ page)
  block_of idx page block = by_map (maps d ino idx) refl
    where
      by_map : (o : Option DiskMapping) → maps d ino idx ≡ o → (m : DiskMapping) × (maps d ino idx ≡ Some m) × (m.block ≡ page)
      by_map o is = from_map o is (subst (λ (k : Option Mapping). IsBlockOf k page)
          ((v.inodes.each ino n at).places idx ∙ ap (option_map kept) is) block)
        where
          from_map : (o : Option DiskMapping) → maps d ino idx ≡ o → IsBlockOf (option_map kept o) page
              → (m : DiskMapping) × (maps d ino idx ≡ Some m) × (m.block ≡ page)
          from_map None is block = absurd block
          from_map (Some m) is block = (m, is, block)

  block_from : (idx : ℕ) (m : DiskMapping) → maps d ino idx ≡ Some m → IsBlockOf (get n.map.map idx) m.block
  block_from idx m is = subst (λ (k : Option Mapping). IsBlockOf k m.block)
      (sym ((v.inodes.each ino n at).places idx ∙ ap (option_map kept) is)) refl

  -- its pages lie in the image
  pub blocks_inside : (pages : ℕ) → ino < length b.inodes.items → pages ≡ d.geometry.pages → IsInside pages n.map.map
  blocks_inside pages lt all idx in_file = by_get (get n.map.map idx) refl
    where
      by_get : (o : Option Mapping) → get n.map.map idx ≡ o → IfSome o (λ m. m.block < pages)
      by_get None is = tt
      by_get (Some m) is =
          let of = block_of idx m.block (subst (λ (o : Option Mapping). IsBlockOf o m.block) (sym is) refl) in
          let inside = mapped_inside d v.fast.valid.logs m.block
          (record { ino = ino; idx = idx; maps_to = record { in_table = in_table lt; in_file = in_file; by = of.0; is = of.1; block = of.2 } }) in
          omega (arith, inside, all)

  -- one inode more is marked
  pub marks_more : (old new : List Bool) → ino < length b.inodes.items → MarksBelow d ino old → MarksBlocks n.map.map 0 4096 old new
      → MarksBelow d (ino + 1) new
  marks_more old new lt before marks = record {
    long = marks.long ∙ before.long;
    each = λ page. (
      (λ is. ⊎_elim (λ was. wider page ((before.each page).0 was)) (λ w. own page w) ((marks.each page).0 is)),
      (λ by. by_inode page by (cases_eq by.ino ino)),
    );
  }
    where
      wider : (page : ℕ) → IsMappedBelow d ino page → IsMappedBelow d (ino + 1) page
      wider page by = record { ino = by.ino; idx = by.idx; below = omega (arith, by.below); maps_to = by.maps_to }

      own : (page : ℕ) → IsBlockWithin n.map.map 0 4096 page → IsMappedBelow d (ino + 1) page
      own page w = let of = block_of w.place page w.block in record {
        ino = ino;
        idx = w.place;
        below = omega arith;
        maps_to = record { in_table = in_table lt; in_file = w.below; by = of.0; is = of.1; block = of.2 };
      }

      by_inode : (page : ℕ) (by : IsMappedBelow d (ino + 1) page) → (by.ino ≡ ino) ⊎ (by.ino ≢ ino) → IsSet new page
      by_inode page by (inl same) =
          let to = subst (λ (i : ℕ). MapsTo d i by.idx page) same by.maps_to in
          (marks.each page).1 (inr (record {
            place = by.idx;
            from = omega arith;
            below = to.in_file;
            block = subst (IsBlockOf (get n.map.map by.idx)) to.block (block_from by.idx to.by to.is);
          }))
      by_inode page by (inr other) =
          (marks.each page).1 (inl ((before.each page).1
          (record { ino = by.ino; idx = by.idx; below = omega (arith, by.below, other); maps_to = by.maps_to })))

-- before the first one
pub marks_start : (d : Disk) (n : ℕ) → n ≡ d.geometry.pages → MarksBelow d 0 (replicate n false)
marks_start d n all = record {
  long = length-replicate n false ∙ all;
  each = λ page. ((λ is. absurd (unset n page is)), (λ by. absurd (omega (arith, by.below))));
}

-- behind the last one
pub marks_end : (d : Disk) (n : ℕ) (marks : List Bool) → d.geometry.inodes ≤ n → MarksBelow d n marks → MarksMapped d marks
marks_end d n marks all below = record {
  long = below.long;
  each = λ page. (
    (λ is. let by = (below.each page).0 is in record { ino = by.ino; idx = by.idx; maps_to = by.maps_to }),
    (λ m. (below.each page).1 (record { ino = m.ino; idx = m.idx; below = omega (arith, m.maps_to.in_table, all); maps_to = m.maps_to })),
  );
}

-- ---- the number of marks

abbrev mark_at : List Bool → ℕ → ℕ
mark_at marks page = if get_or marks page false then 1 else 0

total-first : (f : ℕ → ℕ) (n : ℕ) → total (suc n) f ≡ f 0 + total n (λ k. f (suc k))
unfolding total
total-first f zero = omega arith
total-first f (suc n) = omega (arith, total-first f n)

count_total : (marks : List Bool) → total (length marks) (mark_at marks) ≡ count_by (λ m. m) marks
unfolding total
count_total = is_count_by (λ (marks : List Bool). total (length marks) (mark_at marks)) (λ m. m) refl one_more
  where
    one_more : (m : Bool) (ms : List Bool) → total (length (m ∷ ms)) (mark_at (m ∷ ms)) ≡ (if m then 1 + total (length ms) (mark_at ms) else total
        (length ms) (mark_at ms))
    one_more m ms = total-first (mark_at (m ∷ ms)) (length ms) ∙ by_mark m
      where
        by_mark : (b : Bool) → (if b then 1 else 0) + total (length ms) (mark_at ms) ≡ (if b then 1 + total (length ms) (mark_at ms) else total
            (length ms) (mark_at ms))
        by_mark true = refl
        by_mark false = omega arith

pub marks_counted : (d : Disk) (marks : List Bool) → MarksMapped d marks → count_by (λ m. m) marks ≡ mapped_in d
unfolding mapped_in
marks_counted d marks are =
    sym (count_total marks)
    ∙ ap (λ (n : ℕ). total n (mark_at marks)) are.long
    ∙ total-same (λ page. if mappings d page == 0 then 0 else 1) (mark_at marks) d.geometry.pages (λ page below. by_test page (get_or marks page false) refl)
  where
    by_test : (page : ℕ) (m : Bool) → get_or marks page false ≡ m → ◌≡◌ {A = ℕ} (if m then 1 else 0) (if mappings d page == 0 then 0 else 1)
    by_test page true is =
        let some = (counts_mappings d page).1 ((are.each page).0 is) in
        ap (λ (b : Bool). if b then 0 else 1) (sym (other_test (mappings d page) 0 (λ none. omega (arith, some, none))))
    by_test page false is = ap (λ (b : Bool). if b then 0 else 1) (sym (same_test (mappings d page) 0 (none (cases_eq (mappings d page) 0))))
      where
        none : (mappings d page ≡ 0) ⊎ (mappings d page ≢ 0) → mappings d page ≡ 0
        none (inl zero_is) = zero_is
        none (inr some) = absurd (true_false (sym ((are.each page).1 ((counts_mappings d page).0 (omega (arith, some)))) ∙ is))
