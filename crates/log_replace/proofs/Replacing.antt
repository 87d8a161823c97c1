-- Head and tail of an inode's log change together.
use Rattle.std.proofs.Common.{◌≡◌, ◌⊎◌, inl, inr, ⊎_elim, ℕ, zero, suc, ◌*◌, ◌<◌, List, length, sym, ◌∙◌, ap, subst, arith}
use Rattle.std.specs.Prelude.{slice_index}
use Rattle.pm_device.specs.State.{State, Agree}
use Rattle.pm_device.specs.Settled.{LeavesOnly}
use Rattle.pm_device.specs.Pages.{IsInPage}
use Rattle.pm_device.specs.Reading.{Stands, IsReady}
use Rattle.pm_device.proofs.Layers.{stands_is_ready}
use Rattle.pm_layout.specs.declared.Geometry.{Geometry}
use Rattle.dn_model.specs.Log.{Log, count, tail_at}
use Rattle.dn_model.specs.Disk.{Disk, DiskSays}
use Rattle.dn_model.specs.Image.{StandsFor}
use Rattle.name_journal.specs.declared.change.Change.{Change}
use Rattle.name_journal.specs.Changes.{address, IsNamed, IsTouched}
use Rattle.name_journal.specs.AllOrNone.{AllOrNone, IsAllDone}
use Rattle.law_log_swap.specs.Relogged.{relogged}
use Rattle.law_log_swap.specs.Replaced.{BodySays, log_changes}
use Rattle.law_log_swap.proofs.ReplacedLog.{replaced_images, replaced_stands}
use Rattle.log_replace.specs.Replacing.{IsReadyToReplace, end_changes, IsEndWord}
use Rattle.log_replace.proofs.BodyOfPages.{body_stands}

-- the words of the changes
pub end_words : (ino head tail a : ℕ) → IsTouched (end_changes ino head tail) a → IsEndWord ino a
end_words ino head tail a touched = ⊎_elim
    (λ (named : IsNamed (end_changes ino head tail) a). by_index named.i named.lt named.is)
    (λ (journal : IsInPage 1 a). inr (inr journal)) touched
  where
    by_index : (i : ℕ) → i < 2 → a ≡ address (end_changes ino head tail) i → IsEndWord ino a
    by_index zero lt e = inl e
    by_index (suc zero) lt e = inr (inl e)
    by_index (suc (suc i)) lt e = absurd (omega (arith, lt))

-- of a log with this head and this tail they are its changes
same_changes : (ino head tail : ℕ) (log : Log) → head ≡ slice_index log.pages 0 → tail ≡ tail_at log.pages (count log)
    → end_changes ino head tail ≡ log_changes ino log
same_changes ino head tail log head_is tail_is = ap (λ (h : ℕ). end_changes ino h tail) head_is
    ∙ ap (λ (t : ℕ). end_changes ino (slice_index log.pages 0) t) tail_is

module _ (g : Geometry) (who ino head tail : ℕ) (s t : State) (agree : Agree s.now s.past) (long : length s.now ≡ 512 * g.pages)
    (d : Disk) (log : Log) (is : IsReadyToReplace g ino head tail d log s) where
  changes_are : end_changes ino head tail ≡ log_changes ino log
  changes_are = same_changes ino head tail log is.head_is is.tail_is

  whole : length s.now ≡ 512 * d.geometry.pages
  whole = long ∙ ap (λ (h : Geometry). 512 * h.pages) (sym is.geometry)

  ready : IsReady who (BodySays log) s
  ready = stands_is_ready who s (BodySays log) (body_stands d.geometry log s is.may.good.paged is.body)

  pub images_between : LeavesOnly s t (AllOrNone g.inodes who (end_changes ino head tail) s)
      → LeavesOnly s t (λ c. StandsFor c d ⊎ StandsFor c (relogged d ino log))
  images_between leaves = replaced_images d ino log is.may who s t agree whole is.stands ready
      (subst (λ (h : Geometry). LeavesOnly s t (AllOrNone h.inodes who (log_changes ino log) s)) (sym is.geometry)
      (subst (λ (cs : List Change). LeavesOnly s t (AllOrNone g.inodes who cs s)) changes_are leaves))

  pub log_replaced : IsAllDone who (end_changes ino head tail) s t → Stands (DiskSays (relogged d ino log)) t
  log_replaced done = replaced_stands d ino log is.may who s t agree whole is.stands ready
      (subst (λ (cs : List Change). IsAllDone who cs s t) changes_are done)
