-- What differs in nothing but room, over two events.
use Rattle.std.proofs.Common.{◌≡◌, ⊎_elim, ℕ, List, refl, sym, ◌∙◌, ap, arith, Option}
use Rattle.std.specs.Prelude.{slice_get, Some}
use Rattle.std.proofs.lemmas.Option.{slice_get_cases, slice_get_within}
use Rattle.dn_volume.specs.declared.volume.InodeState.{InodeState}
use Rattle.dn_volume.specs.declared.volume.Parts.{Parts}
use Rattle.dn_volume.specs.Kept.{OfInodes, IsSameInode, SameWork, SameButRoom}

one_inode : (o : Option InodeState) (n n' : InodeState) → o ≡ Some n → o ≡ Some n' → n ≡ n'
one_inode o n n' at at' = cc

pub inodes_same : (ns : List InodeState) → OfInodes IsSameInode ns ns
inodes_same ns = record {
  all = refl;
  each = λ ino n n' at at'. let same = sym (one_inode (slice_get ns ino) n n' at at') in record {
    same = record {
      used = ap (λ (m : InodeState). m.used) same;
      size = ap (λ (m : InodeState). m.size) same;
      places = ap (λ (m : InodeState). m.map.map) same;
      log_pages = ap (λ (m : InodeState). m.log_pages) same;
      round = ap (λ (m : InodeState). m.round) same;
    };
    holder = ap (λ (m : InodeState). m.holder) same;
  };
}

inodes_join : (xs ys zs : List InodeState) → OfInodes IsSameInode xs ys → OfInodes IsSameInode ys zs
    → OfInodes IsSameInode xs zs
inodes_join xs ys zs one two = record {
  all = two.all ∙ one.all;
  each = λ ino n p at at'. ⊎_elim
      (λ found. there ino n found.0 p at found.2 at')
      (λ past. absurd (let lt = slice_get_within xs ino n at in omega (arith, lt, past.0, one.all)))
      (slice_get_cases ys ino).1;
}
  where
    there : (ino : ℕ) (n m p : InodeState) → slice_get xs ino ≡ Some n → slice_get ys ino ≡ Some m
        → slice_get zs ino ≡ Some p → IsSameInode ino n p
    there ino n m p at is at' =
        let a = one.each ino n m at is in let b = two.each ino m p is at' in
        record {
          same = record {
            used = b.same.used ∙ a.same.used;
            size = b.same.size ∙ a.same.size;
            places = b.same.places ∙ a.same.places;
            log_pages = b.same.log_pages ∙ a.same.log_pages;
            round = b.same.round ∙ a.same.round;
          };
          holder = b.holder ∙ a.holder;
        }

pub work_joins : (a b c : Parts) → SameWork a b → SameWork b c → SameWork a c
work_joins a b c one two = record {
  geometry = two.geometry ∙ one.geometry;
  names = two.names ∙ one.names;
  fact = two.fact ∙ one.fact;
  queue = two.queue ∙ one.queue;
  sharing = two.sharing ∙ one.sharing;
  zero_check = two.zero_check ∙ one.zero_check;
  raised = two.raised ∙ one.raised;
  releases = two.releases ∙ one.releases;
  waiting = two.waiting ∙ one.waiting;
  cleaning = two.cleaning ∙ one.cleaning;
  trace = two.trace ∙ one.trace;
  stopped = two.stopped ∙ one.stopped;
}

pub room_joins : (a b c : Parts) → SameButRoom a b → SameButRoom b c → SameButRoom a c
room_joins a b c one two = record {
  work = work_joins a b c one.work two.work;
  free = two.free ∙ one.free;
  inodes = inodes_join a.inodes.items b.inodes.items c.inodes.items one.inodes two.inodes;
  flights = two.flights ∙ one.flights;
}
