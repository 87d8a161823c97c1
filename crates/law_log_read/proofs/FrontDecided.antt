-- What slots begin with can be decided.
use Rattle.std.proofs.Common.{
  ◌≡◌,
  ◌≢◌,
  ◌⊎◌,
  inl,
  inr,
  ℕ,
  ◌+◌,
  ◌^◌,
  ◌<◌,
  ◌≤◌,
  List,
  [],
  ◌∷◌,
  length,
  get_or,
  Option,
  Some,
  None,
  refl,
  sym,
  ap,
  subst,
  arith,
}
use Rattle.std.specs.Prelude.{slice_index, All}
use Rattle.std.proofs.lemmas.Bool.{cases_lt, cases_eq}
use Rattle.log_entry.specs.Name.{IsLegal, IsNameByte}
use Rattle.log_entry.specs.Spelling.{flag_number, spelling, pages_of, IsSpelled}
use Rattle.log_entry.specs.Reading.{Agrees, name_bytes, IsCandidate}
use Rattle.log_entry.specs.Fronts.{BeginsItem, BeginsWith, BeginsNothing}
use Rattle.log_entry.specs.declared.item.Flag.{Flag}
use Rattle.log_entry.specs.declared.item.Flag.TheVariants.{Needed, InProcess, Complete}
use Rattle.log_entry.specs.declared.item.LogItem.{LogItem}
use Rattle.log_entry.specs.declared.item.LogItem.TheVariants.{Write, Size, Add, Forget}
use Rattle.log_entry.proofs.Heads.{
  write_head,
  write_is,
  size_head,
  add_fits,
  forget_fits,
  unnamed,
  named,
  from_head,
  no_kind,
  none_agrees,
  none_at_all,
}
use Rattle.log_entry.proofs.Fronts.{whole, part, nothing, no_slots}
use Rattle.law_log_read.specs.Laws.{FrontsAreDecided}
use Rattle.law_log_read.proofs.Decided.{
  Decided,
  le_decided,
  lt_decided,
  same_decided,
  both_decided,
  implies_decided,
  not_decided,
  each_decided,
  all_decided,
  lists_decided,
}

abbrev HasFlag : ℕ → Type 0
HasFlag n = (flag : Flag) × (flag_number flag ≡ n)

no_flag : (n : ℕ) → 1 ≢ n → 2 ≢ n → 3 ≢ n → (flag : Flag) → flag_number flag ≡ n → ⊥
no_flag n one two three Needed e = one e
no_flag n one two three InProcess e = two e
no_flag n one two three Complete e = three e

flag_decided : (n : ℕ) → Decided (HasFlag n)
flag_decided n = elim (cases_eq 1 n) [
  | inl e ↦ inl (Needed, e)
  | inr one ↦ elim (cases_eq 2 n) [
    | inl e ↦ inl (InProcess, e)
    | inr two ↦ elim (cases_eq 3 n) [
      | inl e ↦ inl (Complete, e)
      | inr three ↦ inr (λ has. no_flag n one two three has.0 has.1)
    ]
  ]
]

byte_decided : (b : ℕ) → Decided (IsNameByte b)
byte_decided b =
    same_decided ((33 ≤ b) × ((b < 256) × ((b ≢ 127) × (b ≢ 47)))) (IsNameByte b)
    (λ p. record { high = p.0; byte = p.1.0; not_delete = p.1.1.0; not_slash = p.1.1.1 })
    (λ is. (is.high, (is.byte, (is.not_delete, is.not_slash))))
    (both_decided (33 ≤ b) ((b < 256) × ((b ≢ 127) × (b ≢ 47))) (le_decided 33 b)
    (both_decided (b < 256) ((b ≢ 127) × (b ≢ 47)) (lt_decided b 256)
    (both_decided (b ≢ 127) (b ≢ 47) (not_decided (b ≡ 127) (cases_eq b 127)) (not_decided (b ≡ 47) (cases_eq b 47)))))

module _ (name : List ℕ) where
  abbrev NoDots : Type 0
  NoDots = (name ≢ 46 ∷ []) × (name ≢ 46 ∷ 46 ∷ [])

  pub legal_decided : Decided (IsLegal name)
  legal_decided =
      same_decided ((1 ≤ length name) × ((length name ≤ 255) × (All IsNameByte name × NoDots))) (IsLegal name)
      (λ p. record { some = p.0; few = p.1.0; bytes = p.1.1.0; not_dot = p.1.1.1.0; not_dots = p.1.1.1.1 })
      (λ is. (is.some, (is.few, (is.bytes, (is.not_dot, is.not_dots)))))
      (both_decided (1 ≤ length name) ((length name ≤ 255) × (All IsNameByte name × NoDots)) (le_decided 1 (length name))
      (both_decided (length name ≤ 255) (All IsNameByte name × NoDots) (le_decided (length name) 255)
      (both_decided (All IsNameByte name) NoDots (all_decided IsNameByte byte_decided name)
      (both_decided (name ≢ 46 ∷ []) (name ≢ 46 ∷ 46 ∷ [])
      (not_decided (name ≡ 46 ∷ []) (lists_decided name (46 ∷ [])))
      (not_decided (name ≡ 46 ∷ 46 ∷ []) (lists_decided name (46 ∷ 46 ∷ [])))))))

-- the numbers of a Write
module _ (first count block size : ℕ) (flag : Flag) (mask : ℕ) where
  abbrev Fits : Type 0
  Fits = (1 ≤ count) × ((count ≤ 17) × ((first + count ≤ pages_of size) × ((size ≤ 16777216) × (mask < 2 ^ count))))

  write_decided : Decided (IsSpelled (Write first count block size flag mask))
  write_decided =
      same_decided Fits (IsSpelled (Write first count block size flag mask))
      (λ p. (p.0, p.1.0, p.1.1.0, p.1.1.1.0, p.1.1.1.1)) (λ is. (is.0, (is.1, (is.2, (is.3, is.4)))))
      (both_decided (1 ≤ count) ((count ≤ 17) × ((first + count ≤ pages_of size) × ((size ≤ 16777216) × (mask < 2 ^ count)))) (le_decided 1 count)
      (both_decided (count ≤ 17) ((first + count ≤ pages_of size) × ((size ≤ 16777216) × (mask < 2 ^ count))) (le_decided count 17)
      (both_decided (first + count ≤ pages_of size) ((size ≤ 16777216) × (mask < 2 ^ count)) (le_decided (first + count) (pages_of size))
      (both_decided (size ≤ 16777216) (mask < 2 ^ count) (le_decided size 16777216) (lt_decided mask (2 ^ count))))))

-- slots agree with others as far as both go
agrees_decided : (xs ys : List (List ℕ)) → Decided (Agrees xs ys)
agrees_decided xs ys =
    each_decided (λ k. k < length ys → get_or xs k [] ≡ get_or ys k [])
    (λ k. implies_decided (k < length ys) (get_or xs k [] ≡ get_or ys k []) (lt_decided k (length ys))
    (lists_decided (get_or xs k []) (get_or ys k [])))
    (length xs)

-- the only item that slots can spell or begin to spell, if any
record Candidate (slots : List (List ℕ)) : Type 0 where
  pub found : Option LogItem
  pub is : IsCandidate found slots

module _ (slots : List (List ℕ)) (some : 0 < length slots) where
  abbrev head : List ℕ
  head = get_or slots 0 []

  abbrev write_of : Flag → LogItem
  write_of flag = Write (slice_index head 1) (slice_index head 2) (slice_index head 3) (slice_index head 4) flag (slice_index head 6)

  write_candidate : slice_index head 0 ≡ 1 → Candidate slots
  write_candidate kind = elim (flag_decided (slice_index head 5)) [
    | inl flag ↦ elim (write_decided (slice_index head 1) (slice_index head 2) (slice_index head 3) (slice_index head 4) flag.0 (slice_index head 6)) [
      | inl good ↦ record {
        found = Some (write_of flag.0);
        is = from_head (Some (write_of flag.0)) slots some good (λ other spelled same. ap Some (sym (write_is other head same kind flag.0 flag.1)));
      }
      | inr bad ↦ record {
        found = None;
        is = from_head None slots some tt
            (λ other spelled same. absurd (bad (subst IsSpelled (write_is other head same kind flag.0 flag.1) spelled)));
      }
    ]
    | inr never ↦ record {
      found = None;
      is = from_head None slots some tt (λ other spelled same. let w = write_head other head same kind in absurd (never (w.flag, w.number)));
    }
  ]

  size_candidate : slice_index head 0 ≡ 2 → Candidate slots
  size_candidate kind = elim (le_decided (slice_index head 1) 16777216) [
    | inl good ↦ record {
      found = Some (Size (slice_index head 1));
      is = from_head (Some (Size (slice_index head 1))) slots some good (λ other spelled same. ap Some (sym (size_head other head same kind)));
    }
    | inr bad ↦ record {
      found = None;
      is = from_head None slots some tt (λ other spelled same. absurd (bad (subst IsSpelled (size_head other head same kind) spelled)));
    }
  ]

  add_candidate : slice_index head 0 ≡ 3 → Candidate slots
  add_candidate kind = elim (legal_decided (name_bytes slots)) [
    | inl legal ↦ record {
      found = Some (Add (slice_index head 1) (name_bytes slots));
      is = named (λ n. Add (slice_index head 1) n) (name_bytes slots) slots refl legal (λ other spelled same. add_fits other slots some kind spelled
          same);
    }
    | inr never ↦ record {
      found = None;
      is = unnamed (Add (slice_index head 1) (name_bytes slots)) slots never (λ other spelled same. add_fits other slots some kind spelled same);
    }
  ]

  forget_candidate : slice_index head 0 ≡ 4 → Candidate slots
  forget_candidate kind = elim (legal_decided (name_bytes slots)) [
    | inl legal ↦ record {
      found = Some (Forget (name_bytes slots));
      is = named (λ n. Forget n) (name_bytes slots) slots refl legal (λ other spelled same. forget_fits other slots some kind spelled same);
    }
    | inr never ↦ record {
      found = None;
      is = unnamed (Forget (name_bytes slots)) slots never (λ other spelled same. forget_fits other slots some kind spelled same);
    }
  ]

  candidate : Candidate slots
  candidate = elim (cases_eq (slice_index head 0) 1) [
    | inl kind ↦ write_candidate kind
    | inr one ↦ elim (cases_eq (slice_index head 0) 2) [
      | inl kind ↦ size_candidate kind
      | inr two ↦ elim (cases_eq (slice_index head 0) 3) [
        | inl kind ↦ add_candidate kind
        | inr three ↦ elim (cases_eq (slice_index head 0) 4) [
          | inl kind ↦ forget_candidate kind
          | inr four ↦ record { found = None; is = no_kind slots some one two three four }
        ]
      ]
    ]
  ]

abbrev FrontOf : List (List ℕ) → Type 0
FrontOf slots = ((item : LogItem) × BeginsWith item slots) ⊎ BeginsItem slots ⊎ BeginsNothing slots

from_candidate : (slots : List (List ℕ)) (found : Option LogItem) → IsCandidate found slots → FrontOf slots
from_candidate slots None is = inr (inr (nothing slots (none_at_all None slots is refl)))
from_candidate slots (Some item) is = elim (agrees_decided slots (spelling item)) [
  | inl same ↦ elim (cases_lt (length slots) (length (spelling item))) [
    | inl short ↦ inr (inl (part item slots is.spelled same short))
    | inr long ↦ inl (item, whole item slots is.spelled same long)
  ]
  | inr refused ↦ inr (inr (nothing slots (none_agrees (Some item) item slots is refl refused)))
]

pub fronts_decided : FrontsAreDecided
fronts_decided [] = inr (inl (no_slots [] refl))
fronts_decided (slot ∷ slots) = let only = candidate (slot ∷ slots) (omega arith) in from_candidate (slot ∷ slots) only.found only.is
