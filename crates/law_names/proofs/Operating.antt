-- The premises of each operation suffice for its change.
use Rattle.std.proofs.Common.{◌≡◌, ◌≢◌, inl, inr, ℕ, ◌<◌, ◌≤◌, List, [], ◌∷◌, refl, sym, ◌∙◌, ap, subst}
use Rattle.std.specs.Prelude.{Option, Some, None}
use Rattle.std.proofs.lemmas.Bool.{cases_eq}
use Rattle.std.proofs.lemmas.List.Elements.{All-nil, All-cons}
use Rattle.log_entry.specs.Name.{IsLegal}
use Rattle.log_entry.specs.Spelling.{IsSpelled}
use Rattle.log_entry.specs.declared.item.LogItem.TheVariants.{Add, Forget}
use Rattle.dn_model.specs.Disk.{Disk, Inode, Use, Free, Live, Dying}
use Rattle.dn_model.specs.Files.{named, named_after}
use Rattle.dn_model.specs.Valid.{MayStand, IsLinked, IsValid}
use Rattle.law_write.proofs.WriteFiles.{named-in_table}
use Rattle.law_names.specs.NameChange.{NameChange, turned, names_changed, MayGrowRoot, MayChange}
use Rattle.law_names.specs.Operations.{creation, removal, renaming, MayCreate, MayRemove, MayRename, with_name}
use Rattle.law_names.proofs.Changed.{at_root, at_ino, at_other}
use Rattle.law_names.proofs.Links.{
  named_after-append,
  with_name-here,
  with_name-other,
  LeadsOnce,
  IsUnnamed,
  LinkedBy,
  linked_by,
  linked_so,
  unnamed_put,
  linked_put,
  new_put,
  unnamed_forget,
  once_forget,
  linked_forget,
  gone_forget,
  put_over,
}

-- the items tell which inode a name leads to
pub named_changed : (d : Disk) (change : NameChange) (other : List ℕ) → named (names_changed d change) other ≡ named_after other (named d other)
    change.more
unfolding named
named_changed d change other =
    ap (λ (n : Inode). named_after other None n.log.items) (at_root d change) ∙ named_after-append other None (d.inode 0).log.items change.more

-- a name leads to a live inode
module _ (d : Disk) (valid : IsValid d) (name : List ℕ) (i : ℕ) (leads : named d name ≡ Some i) where
  by_use : (u : Use) → IsLinked d i u → u ≡ Live
  by_use Live linked = refl
  by_use Free none = absurd (none name leads)
  by_use (Dying c) none = absurd (none name leads)

  pub named_file : (1 ≤ i) × (i < d.geometry.inodes)
  named_file = named-in_table d valid name i leads

  pub named_live : (d.inode i).use_of ≡ Live
  named_live = by_use (d.inode i).use_of (valid.links i named_file.0 named_file.1)

  pub named_once : LeadsOnce (named d) i
  named_once = subst (LinkedBy (named d) i) named_live (linked_by d i (d.inode i).use_of (valid.links i named_file.0 named_file.1))

-- an inode that isn't the one that turns is linked so, where its use is what it was
module _ (d : Disk) (change : NameChange) (f : List ℕ → Option ℕ) (same : (other : List ℕ) → named (names_changed d change) other ≡ f other)
    (file : 1 ≤ change.ino) where
  pub links_by : ((i : ℕ) → 1 ≤ i → i < d.geometry.inodes → i ≢ change.ino → LinkedBy f i (d.inode i).use_of)
      → LinkedBy f change.ino (turned change.turn (d.inode change.ino)).use_of
      → (i : ℕ) → 1 ≤ i → i < d.geometry.inodes → IsLinked (names_changed d change) i ((names_changed d change).inode i).use_of
  links_by others here i some lt = linked_so (names_changed d change) f same i ((names_changed d change).inode i).use_of
      (elim (cases_eq i change.ino) [
        | inl e ↦ subst (λ (j : ℕ). LinkedBy f j ((names_changed d change).inode j).use_of) (sym e) (subst (λ (n : Inode). LinkedBy f change.ino n.use_of)
            (sym (at_ino d change file)) here)
        | inr ne ↦ subst (λ (n : Inode). LinkedBy f i n.use_of) (sym (at_other d change i some ne)) (others i some lt ne)
      ])

module _ (d : Disk) (name : List ℕ) (ino : ℕ) (fresh : List ℕ) (may : MayCreate d name ino fresh) where
  pub named_created : (other : List ℕ) → named (names_changed d (creation name ino fresh)) other ≡ with_name (named d) name (Some ino) other
  named_created other = named_changed d (creation name ino fresh) other

  unnamed_before : IsUnnamed (named d) ino
  unnamed_before = subst (LinkedBy (named d) ino) may.free (linked_by d ino (d.inode ino).use_of (may.root.valid.links ino may.file may.in_table))

  pub may_create : MayChange d (creation name ino fresh)
  may_create = record {
    root = may.root;
    spelled = All-cons IsSpelled (Add ino name) [] may.legal (All-nil IsSpelled);
    standing = All-cons (MayStand d.geometry 0) (Add ino name) [] (may.file, may.in_table) (All-nil (MayStand d.geometry 0));
    file = may.file;
    in_table = may.in_table;
    may_turn = may.free;
    links = links_by d (creation name ino fresh) (with_name (named d) name (Some ino)) named_created may.file
        (λ i some lt ne. linked_put (named d) name ino i ne may.unnamed (d.inode i).use_of
        (linked_by d i (d.inode i).use_of (may.root.valid.links i some lt)))
        (new_put (named d) name ino unnamed_before);
  }

module _ (d : Disk) (name : List ℕ) (ino : ℕ) (fresh : List ℕ) (may : MayRemove d name ino fresh) where
  pub named_removed : (other : List ℕ) → named (names_changed d (removal name ino fresh)) other ≡ with_name (named d) name None other
  named_removed other = named_changed d (removal name ino fresh) other

  abbrev file : (1 ≤ ino) × (ino < d.geometry.inodes)
  file = named_file d may.root.valid name ino may.leads

  pub may_remove : MayChange d (removal name ino fresh)
  may_remove = record {
    root = may.root;
    spelled = All-cons IsSpelled (Forget name) [] may.legal (All-nil IsSpelled);
    standing = All-cons (MayStand d.geometry 0) (Forget name) [] tt (All-nil (MayStand d.geometry 0));
    file = file.0;
    in_table = file.1;
    may_turn = named_live d may.root.valid name ino may.leads;
    links = links_by d (removal name ino fresh) (with_name (named d) name None) named_removed file.0
        (λ i some lt ne. linked_forget (named d) name ino i ne may.leads (d.inode i).use_of
        (linked_by d i (d.inode i).use_of (may.root.valid.links i some lt)))
        (gone_forget (named d) name ino may.leads (named_once d may.root.valid name ino may.leads));
  }

module _ (d : Disk) (from to : List ℕ) (ino : ℕ) (fresh : List ℕ) (root : MayGrowRoot d fresh (Forget from ∷ Add ino to ∷ []))
    (legal_from : IsLegal from) (legal_to : IsLegal to)
    (apart : from ≢ to) (leads : named d from ≡ Some ino) where
  abbrev kept : List ℕ → Option ℕ
  kept = with_name (named d) from None

  abbrev moved : List ℕ → Option ℕ
  moved = with_name kept to (Some ino)

  abbrev mover : (1 ≤ ino) × (ino < d.geometry.inodes)
  mover = named_file d root.valid from ino leads

  kept_to : kept to ≡ named d to
  kept_to = with_name-other (named d) from None to (λ e. apart (sym e))

  linked_kept : (i : ℕ) → 1 ≤ i → i < d.geometry.inodes → i ≢ ino → LinkedBy kept i (d.inode i).use_of
  linked_kept i some lt ne = linked_forget (named d) from ino i ne leads (d.inode i).use_of
      (linked_by d i (d.inode i).use_of (root.valid.links i some lt))

  mover_kept : IsUnnamed kept ino
  mover_kept = gone_forget (named d) from ino leads (named_once d root.valid from ino leads)

  mover_live : (u : Use) → u ≡ Live → LeadsOnce moved ino → LinkedBy moved ino u
  mover_live u live one = subst (LinkedBy moved ino) (sym live) one

  -- where no file had the name
  module _ (free : named d to ≡ None) where
    abbrev plain : NameChange
    plain = renaming from to ino None fresh

    pub may_rename_plain : MayChange d plain
    may_rename_plain = record {
      root = root;
      spelled = All-cons IsSpelled (Forget from) (Add ino to ∷ []) legal_from (All-cons IsSpelled (Add ino to) [] legal_to (All-nil IsSpelled));
      standing = All-cons (MayStand d.geometry 0) (Forget from) (Add ino to ∷ []) tt (All-cons (MayStand d.geometry 0) (Add ino to) [] mover
          (All-nil (MayStand d.geometry 0)));
      file = mover.0;
      in_table = mover.1;
      may_turn = tt;
      links = links_by d plain moved (named_changed d plain) mover.0
          (λ i some lt ne. linked_put kept to ino i ne (kept_to ∙ free) (d.inode i).use_of (linked_kept i some lt ne))
          (mover_live (d.inode ino).use_of (named_live d root.valid from ino leads) (new_put kept to ino mover_kept));
    }

  -- where a file had it
  module _ (other : ℕ) (had : named d to ≡ Some other) where
    abbrev over : NameChange
    over = renaming from to ino (Some other) fresh

    abbrev lost : (1 ≤ other) × (other < d.geometry.inodes)
    lost = named_file d root.valid to other had

    different : other ≢ ino
    different e =
        let one = named_once d root.valid from ino leads in
        apart (one.alone from leads ∙ sym (one.alone to (had ∙ ap Some e)))

    -- the name goes first
    abbrev freed : List ℕ → Option ℕ
    freed = with_name kept to None

    abbrev placed : List ℕ → Option ℕ
    placed = with_name freed to (Some ino)

    had_kept : kept to ≡ Some other
    had_kept = kept_to ∙ had

    freed_to : freed to ≡ None
    freed_to = with_name-here kept to None

    pub may_rename_over : MayChange d over
    may_rename_over = record {
      root = root;
      spelled = All-cons IsSpelled (Forget from) (Add ino to ∷ []) legal_from (All-cons IsSpelled (Add ino to) [] legal_to (All-nil IsSpelled));
      standing = All-cons (MayStand d.geometry 0) (Forget from) (Add ino to ∷ []) tt (All-cons (MayStand d.geometry 0) (Add ino to) [] mover
          (All-nil (MayStand d.geometry 0)));
      file = lost.0;
      in_table = lost.1;
      may_turn = named_live d root.valid to other had;
      links = links_by d over placed (λ name. named_changed d over name ∙ put_over kept to (Some ino) name) lost.0 others
          (unnamed_put freed to ino other different (gone_forget kept to other had_kept (once_forget (named d) from ino other different leads
          (named_once d root.valid to other had))));
    }
      where
        others : (i : ℕ) → 1 ≤ i → i < d.geometry.inodes → i ≢ other → LinkedBy placed i (d.inode i).use_of
        others i some lt ne = elim (cases_eq i ino) [
          | inl e ↦ subst (λ (k : ℕ). LinkedBy placed k (d.inode k).use_of) (sym e)
              (subst (LinkedBy placed ino) (sym (named_live d root.valid from ino leads))
              (new_put freed to ino (unnamed_forget kept to other ino mover_kept)))
          | inr not ↦ linked_put freed to ino i not freed_to (d.inode i).use_of (linked_forget kept to other i ne had_kept (d.inode i).use_of
              (linked_kept i some lt not))
        ]

pub may_rename : (d : Disk) (from to : List ℕ) (ino : ℕ) (replaced : Option ℕ) (fresh : List ℕ) → MayRename d from to ino replaced fresh
    → MayChange d (renaming from to ino replaced fresh)
may_rename d from to ino None fresh may = may_rename_plain d from to ino fresh may.root may.legal_from may.legal_to may.apart may.leads may.replaces
may_rename d from to ino (Some other) fresh may = may_rename_over d from to ino fresh may.root may.legal_from may.legal_to may.apart may.leads other
    may.replaces

pub named_renamed : (d : Disk) (from to : List ℕ) (ino : ℕ) (replaced : Option ℕ) (fresh : List ℕ)
    → (other : List ℕ) → named (names_changed d (renaming from to ino replaced fresh)) other ≡ with_name (with_name (named d) from None) to (Some ino)
    other
named_renamed d from to ino None fresh other = named_changed d (renaming from to ino None fresh) other
named_renamed d from to ino (Some j) fresh other = named_changed d (renaming from to ino (Some j) fresh) other
