-- A dying inode's cut falls, or it ends, by one word of the device: what is so of the disk afterwards.
use Rattle.std.proofs.Common.{◌≡◌, ◌≢◌, inl, ℕ, ◌*◌, ◌<◌, ◌≤◌, List, [], ◌∷◌, length, refl, sym, ◌∙◌, ap, subst, arith}
use Rattle.std.specs.Prelude.{IsNone, Contains}
use Rattle.pm_device.specs.State.{State, Agree}
use Rattle.pm_device.specs.Settled.{IsSettled, LeavesOnly, StoresOnly, KeepsFlushed, Others}
use Rattle.pm_device.specs.Commit.{IsDone, LeavesOneWord}
use Rattle.pm_device.proofs.Only.{stores_only-weaken}
use Rattle.pm_layout.specs.declared.Geometry.{Geometry}
use Rattle.pm_layout.specs.Geometry.{inode_word}
use Rattle.dn_model.specs.Table.{Row, row_of}
use Rattle.dn_model.specs.Disk.{Disk}
use Rattle.dn_model.specs.Own.{Print, IsOwn, page_bytes}
use Rattle.law_write.specs.Events.{IsUnused}
use Rattle.law_table.proofs.Rows.{listed_here}
use Rattle.law_table.proofs.Words.{nothing_ready}
use Rattle.law_table_on_disk.specs.OneWord.{IsOneWord}
use Rattle.law_table_on_disk.proofs.OneWord.{one_word_stands, one_word_any_order, one_word_may_commit}
use Rattle.law_dying.specs.Dying.{Step, stepped, KeepsLiving}
use Rattle.law_dying.proofs.Stepped.{at_other, same_pointer, same_word}
use Rattle.dn_volume.specs.Planned.{slot_of_row}
use Rattle.dn_volume.specs.Accounts.{AccountsFor, KeepsAlone}
use Rattle.dn_volume.specs.Agrees.{StandsFast, HasNoStale}
use Rattle.dn_volume.specs.Events.{word_in}
use Rattle.dn_volume.specs.Rely.{KeepsRest, IsWordOf, of_inode, LeavesRest}
use Rattle.dn_volume.proofs.Between.{old_or_new}
use Rattle.dn_volume.proofs.Heads.{none_stale_kept}
use Rattle.reclaim.proofs.WorkEvent.{WorkShown}

module _ (d : Disk) (ino : ℕ) (step : Step) where
  bytes_still : (page : ℕ) → page_bytes (stepped d ino step) page ≡ page_bytes d page
  unfolding page_bytes stepped
  bytes_still page = refl

module _ (d : Disk) (ino : ℕ) (step : Step) (field value : ℕ) (small : field < 16) (one : IsOneWord d (stepped d ino step) 0 [] (inode_word ino field)
    value)
    (living : KeepsLiving d (stepped d ino step) ino) (in_table : ino < d.geometry.inodes) where
  abbrev e : Disk
  e = stepped d ino step

  not_in : (i : ℕ) → (Contains (ino ∷ []) i → ⊥) → i ≢ ino
  not_in i out same = out (subst (Contains (ino ∷ [])) (sym same) (listed_here ino []))

  pub unused_kept : (page : ℕ) → IsUnused d page → IsUnused e page
  unused_kept page is = record {
    free = living.free_kept page is.free;
    no_row = subst (λ (rs : List Row). IsNone (row_of rs page))
        (sym living.rows_same) is.no_row;
  }

  keeps_rest : KeepsRest (ino ∷ []) [] d e
  keeps_rest = record {
    geometry = one.geometry;
    inode = λ i out. at_other d ino step i (not_in i out);
    named_so = λ i name some out. ((λ leads. sym (living.names name) ∙ leads), (λ leads. living.names name ∙ leads));
    word = λ page k read. same_word d ino step page k;
    unused = λ page out is. unused_kept page is;
    slots = λ i idx m lt out is. ap (λ (rs : List Row). slot_of_row (row_of rs m.block)) living.rows_same;
    counting = λ row has some. record {
      still = row;
      there = subst (λ (rs : List Row). Contains rs row) (sym living.rows_same) has;
      slot = refl;
      page = refl;
      print = refl;
    };
  }

  pub step_pointers : HasNoStale d → HasNoStale e
  step_pointers = none_stale_kept d e one.geometry (same_pointer d ino step)
      (λ row has. record { row = row; there = subst (λ (rs : List Row). Contains rs row) (sym living.rows_same) has; page_is = refl })

  alone_then : KeepsAlone d e
  alone_then i idx m place alone = record {
    mapping = m;
    place = living.live_only i idx m place;
    alone = alone;
    page_is = refl;
    bytes_are = bytes_still d ino step m.block;
  }

  accounts : (print : Print) → AccountsFor print d e
  accounts print = record {
    alone = λ i idx m place alone. inl (alone_then i idx m place alone);
    row_pages = λ row has. inl (record {
      was = row;
      there = subst (λ (rs : List Row). Contains rs row) living.rows_same has;
      page_is = refl;
      bytes_are = bytes_still d ino step row.page;
    });
  }

  module _ (s u : State) (g : Geometry) (fast : StandsFast d g s) (only : StoresOnly (λ a. a ≡ inode_word ino field) s u) where
    long : length u.now ≡ 512 * d.geometry.pages
    long = only.words ∙ fast.long

    pub step_settled : IsSettled s (inode_word ino field)
    step_settled = (one_word_may_commit d e 0 [] (inode_word ino field) value one s fast.long fast.stands).settled

    pub step_shown : (print : Print) → (IsOwn print d → IsOwn print e) → Agree u.now u.past → s.faults ≤ u.faults
        → (IsSettled s (inode_word ino field) → LeavesOnly s u (LeavesOneWord (inode_word ino field) value s)) → WorkShown print d e s u
    step_shown print own agree faults any_moment = record {
      images = old_or_new print d e s u own (one_word_any_order d e 0 (inode_word ino field) value one s u agree long fast.stands
          (any_moment step_settled));
      quiet = living.files_same;
      own = own;
      accounts = accounts print;
      alone = alone_then;
      words = λ slot. ap (λ (rs : List Row). word_in rs slot) living.rows_same;
      faults = faults;
    }

    pub step_leaves : KeepsFlushed (Others 16) (λ a. a ≡ inode_word ino field) s u → LeavesRest 16 (ino ∷ []) [] d e s u
    step_leaves others = record {
      rest = keeps_rest;
      only = stores_only-weaken _ _ s u word_of only;
      others = λ q a ne out inside flushed. others.flushed q a ne (λ is. out (word_of a is)) inside flushed;
    }
      where
        word_of : (a : ℕ) → a ≡ inode_word ino field → IsWordOf (ino ∷ []) [] d a
        word_of a is = of_inode ino (listed_here ino []) in_table (omega (arith, is), omega (arith, is, small))

    pub step_fast : IsDone 16 (inode_word ino field) value s u → StandsFast e g u
    step_fast done = record {
      geometry = one.geometry ∙ fast.geometry;
      long = long ∙ ap (λ (k : Geometry). 512 * k.pages) (sym one.geometry);
      valid = one.new_valid;
      stands = one_word_stands d e 0 [] (inode_word ino field) value one 16 s u fast.long fast.stands (nothing_ready 16 0 s) done only;
    }
