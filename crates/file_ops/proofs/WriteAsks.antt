-- What a Write asks, and what it is answered where it isn't begun.
use Rattle.std.proofs.Common.{
  ◌≡◌,
  ◌⊎◌,
  inl,
  inr,
  ⊎_elim,
  ℕ,
  ◌+◌,
  ◌-◌,
  ◌<◌,
  ◌≤◌,
  List,
  [],
  ◌∷◌,
  length,
  refl,
  sym,
  ◌∙◌,
  ap,
  subst,
  arith,
  Option,
  Some,
}
use Rattle.std.specs.Prelude.{◌/◌, if◌then◌else◌, IsSome, nat_lt, Bool, true, false}
use Rattle.pm_device.specs.State.{State}
use Rattle.law_table.proofs.Rows.{other_test}
use Rattle.dn_model.specs.Disk.{Disk}
use Rattle.dn_model.specs.Log.{Log}
use Rattle.dn_model.specs.Files.{files, named}
use Rattle.dn_model.specs.Apply.{grants, bad_name, missed, too_long, too_big}
use Rattle.dn_model.specs.History.{touched, extra, room, inode_of, needed}
use Rattle.dn_model.specs.declared.op.Op.TheVariants.{Write}
use Rattle.dn_model.specs.declared.op.Reply.TheVariants.{Done, Refused}
use Rattle.dn_model.specs.declared.op.Refusal.{Refusal}
use Rattle.dn_model.specs.declared.op.Refusal.TheVariants as why
use Rattle.dn_volume.specs.declared.volume.Parts.{Parts}
use Rattle.dn_volume.specs.Planned.{row_slots}
use Rattle.dn_volume.specs.PlannedNames.{inode_list}
use Rattle.dn_volume.specs.Agrees.{IsVolume}
use Rattle.dn_volume.specs.Begins.{IsAnswerOf, of_files, wants}
use Rattle.data_begins.specs.declared.asks.DataAsk.{DataAsk}
use Rattle.data_begins.specs.Lookup.{IsFound, IsLookupRefusal}
use Rattle.data_begins.specs.Asked.{IsLiveFile, IsAsk}
use Rattle.data_begins.proofs.LiveFiles.{named_file}
use Rattle.file_ops.specs.Asking.{IsWriteAsk}
use Rattle.file_ops.proofs.Replied.{one_legal, not_legal, found, misses}

nothing : (text : List ℕ) → length text ≡ 0 → text ≡ []
nothing [] none = refl
nothing (x ∷ xs) none = absurd (omega (arith, none))

pub something : (text : List ℕ) → 1 ≤ length text → text ≡ [] → ⊥
something text some none = let long = ap length none in omega (arith, some, long)

extra_few : (k : ℕ) (log : Log) → extra k log ≤ 1
extra_few k log = by (nat_lt (room log) k)
  where
    by : (t : Bool) → (if t then 1 else 0) ≤ 1
    by true = omega arith
    by false = omega arith

-- the places that bytes touch
pub touched_is : (at count : ℕ) → 1 ≤ count → touched at count ≡ (at + count + 4095) / 4096 - at / 4096
touched_is at count some = ap (λ (t : Bool). if t then 0 else ((at + count + 4095) / 4096 - at / 4096))
    (other_test count 0 (λ none. omega (arith, some, none)))

pub touched_few : (at count : ℕ) → 1 ≤ count → count ≤ 65536 → at + count ≤ 16777216
    → (1 ≤ touched at count) × (touched at count ≤ 17) × (at / 4096 + touched at count ≤ 4096)
touched_few at count some few fits =
    let is = touched_is at count some in
    (omega (arith, is, some), omega (arith, is, few), omega (arith, is, fits))

module _ (d : Disk) (b : Parts) (s : State) (v : IsVolume d b s) (name : List ℕ) (at : ℕ) (text : List ℕ) where
  pub write_refused : (refusal : Refusal) → IsLookupRefusal b.names.map name refusal → IsAnswerOf d b (Write name at text) (Refused refusal)
  write_refused why.BadName bad = of_files (Refused why.BadName) (bad_name (not_legal name bad) refl)
      (λ granted. absurd (not_legal name bad granted.legal))
  write_refused why.NotFound is = of_files (Refused why.NotFound) (missed (one_legal name is.0) (misses d b s v name is.1) refl)
      (λ granted. absurd (misses d b s v name is.1 granted.finds))
  write_refused why.Exists is = absurd is
  write_refused why.TooLong is = absurd is
  write_refused why.TooBig is = absurd is
  write_refused why.NoInode is = absurd is
  write_refused (why.NoSpace needed free) is = absurd is

  module _ (ino : ℕ) (is : IsFound b.names.map name ino) where
    finds : IsSome (files d name)
    finds = found d b s v name ino is.leads

    pub write_too_long : 65536 < length text → IsAnswerOf d b (Write name at text) (Refused why.TooLong)
    write_too_long many = of_files (Refused why.TooLong)
        (too_long (one_legal name is.legal) finds (λ few. omega (arith, many, few)) refl)
        (λ granted. absurd (let few = granted.short in omega (arith, many, few)))

    pub write_nothing : length text ≡ 0 → IsAnswerOf d b (Write name at text) Done
    write_nothing none = of_files Done
        (grants (one_legal name is.legal) finds (omega (arith, none)) (inl (nothing text none)) refl)
        (λ granted. nothing text none)

    pub write_too_big : 1 ≤ length text → length text ≤ 65536 → 16777216 < at + length text
        → IsAnswerOf d b (Write name at text) (Refused why.TooBig)
    write_too_big some few many = of_files (Refused why.TooBig)
        (too_big (one_legal name is.legal) finds few no_fit refl) (λ granted. absurd (no_fit granted.fits))
      where
        no_fit : (text ≡ []) ⊎ (at + length text ≤ 16777216) → ⊥
        no_fit fits = ⊎_elim (λ none. something text some none) (λ le. omega (arith, le, many)) fits

    leads : named d name ≡ Some ino
    leads = sym (v.names.leads name) ∙ is.leads

    pub write_asks : (ask : DataAsk) → 1 ≤ length text → length text ≤ 65536 → at + length text ≤ 16777216
        → IsWriteAsk d ino at (length text) ask → IsAsk d (Write name at text) ask
    write_asks ask some few fits asks =
        let places = touched_few at (length text) some few fits in
        let more = extra_few (touched at (length text)) (d.inode ino).log in
        let need = asks.needs in
        let first = asks.lost in
        let all = asks.places in
        record {
          granted = record { legal = one_legal name is.legal; finds = finds; short = few; fits = inr fits };
          lasts = something text some;
          holds = wants_it text some ∙ ap inode_list leads ∙ ap (λ (i : ℕ). i ∷ []) (sym asks.ino_is);
          file = subst (λ (i : ℕ). IsLiveFile d i) (sym asks.ino_is) (named_file d b s v name ino leads);
          needs = ap (λ (o : Option ℕ). touched at (length text) + extra (touched at (length text)) (d.inode (inode_of o)).log) leads ∙ sym need;
          few = omega (arith, need, places.1, more);
          keeps = refl;
          inode = λ lacks. lacks;
          loses = ap (λ (o : Option ℕ). row_slots d (inode_of o) (at / 4096) (touched at (length text))) leads
              ∙ ap (λ (i : ℕ). row_slots d i (at / 4096) (touched at (length text))) (sym asks.ino_is)
              ∙ ap (λ (k : ℕ). row_slots d ask.ino k (touched at (length text))) (sym first)
              ∙ ap (λ (k : ℕ). row_slots d ask.ino ask.lost k) (sym all);
          in_file = omega (arith, first, all, places.2);
        }
      where
        wants_it : (xs : List ℕ) → 1 ≤ length xs → wants d (Write name at xs) ≡ inode_list (named d name)
        wants_it [] some = absurd (omega (arith, some))
        wants_it (x ∷ xs) some = refl

pub needs_pages : (log : Log) (places n left : ℕ) → places ≡ n → left ≡ room log → places + (if nat_lt left places then 1 else 0) ≡ n + extra n log
needs_pages log places n left is left_is =
    ap (λ (k : ℕ). k + (if nat_lt left k then 1 else 0)) is ∙ ap (λ (k : ℕ). n + (if nat_lt k n then 1 else 0)) left_is
