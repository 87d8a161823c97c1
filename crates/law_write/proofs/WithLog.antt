-- How a disk with another log differs from the one that it comes from.
use Rattle.std.proofs.Common.{◌≡◌, ◌≢◌, ℕ, Bool, true, false, List, refl, ap, arith}
use Rattle.std.specs.Prelude.{if◌then◌else◌, ◌==◌}
use Rattle.std.proofs.lemmas.Bool.Decides.{nat_tests}
use Rattle.log_entry.specs.declared.item.LogItem.{LogItem}
use Rattle.dn_model.specs.Log.{Log}
use Rattle.dn_model.specs.Disk.{Disk, Inode}
use Rattle.dn_model.specs.Growth.{IsGrown}
use Rattle.law_write.specs.Events.{Relogs, IsReadPage}
use Rattle.law_write.specs.WithLog.{with_log, grown_log}

itself : (a : ℕ) → (a == a) ≡ true
itself a = grind (arith, nat_tests)

different : (a b : ℕ) → a ≢ b → (a == b) ≡ false
different a b ne = grind (arith, nat_tests)

module _ (d : Disk) (ino : ℕ) (log : Log) (word : ℕ → ℕ → ℕ) where
  abbrev changed : Inode
  changed = record { use_of = (d.inode ino).use_of; log = log }

  pub with_log-inode : (with_log d ino log word).inode ino ≡ changed
  unfolding with_log
  with_log-inode = ap (λ (b : Bool). if b then changed else d.inode ino) (itself ino)

  pub with_log-log : ((with_log d ino log word).inode ino).log ≡ log
  with_log-log = ap (λ (n : Inode). n.log) with_log-inode

  pub with_log-other : (i : ℕ) → i ≢ ino → (with_log d ino log word).inode i ≡ d.inode i
  unfolding with_log
  with_log-other i ne = ap (λ (b : Bool). if b then changed else d.inode i) (different i ino ne)

  pub with_log-word : (page k : ℕ) → (with_log d ino log word).word page k ≡ word page k
  unfolding with_log
  with_log-word page k = refl

  pub with_log-relogs : ((page k : ℕ) → IsReadPage d page → word page k ≡ d.word page k) → Relogs ino d (with_log d ino log word)
  unfolding with_log
  with_log-relogs words = record {
    geometry = refl;
    others = with_log-other;
    same_use = ap (λ (n : Inode). n.use_of) with_log-inode;
    chain = λ p. refl;
    pointer = λ p. refl;
    word = words;
  }

-- the log grows
abbrev pub with_log-grown : (d : Disk) (ino : ℕ) (fresh : List ℕ) (more : List LogItem) (word : ℕ → ℕ → ℕ)
    → IsGrown (d.inode ino).log ((with_log d ino (grown_log (d.inode ino).log fresh more) word).inode ino).log
with_log-grown d ino fresh more word = record {
  fresh = fresh;
  more = more;
  pages = ap (λ (l : Log). l.pages) (with_log-log d ino (grown_log (d.inode ino).log fresh more) word);
  items = ap (λ (l : Log). l.items) (with_log-log d ino (grown_log (d.inode ino).log fresh more) word);
}
