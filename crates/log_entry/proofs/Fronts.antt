-- What slots begin with, from an item whose slots agree with them.
use Rattle.std.proofs.Common.{
  ◌≡◌,
  ℕ,
  ◌<◌,
  ◌≤◌,
  List,
  [],
  ◌++◌,
  length,
  get_or,
  take,
  drop,
  refl,
  sym,
  ◌∙◌,
  ap,
  arith,
  lit≤,
  length-append,
  append_assoc,
  append-nil,
}
use Rattle.std.proofs.lemmas.List.{
  same_lists,
  take-append-drop,
  length-take-le,
  length-drop,
  get_or-take,
  get_or_append_left,
  get_or_default,
  nil_from_length,
}
use Rattle.log_entry.specs.Spelling.{spelling, IsSpelled}
use Rattle.log_entry.specs.Reading.{Agrees}
use Rattle.log_entry.specs.Fronts.{BeginsItem, BeginsWith, BeginsNothing, IsFrontOf}
use Rattle.log_entry.specs.Laws.{HasOneFront, IsReadAgain}
use Rattle.log_entry.proofs.Unique.{spelling_one}
use Rattle.log_entry.specs.declared.item.LogItem.{LogItem}
use Rattle.log_entry.specs.declared.item.LogItem.TheVariants.{Size}
use Rattle.log_entry.specs.declared.read.Front.TheVariants.{Whole, Part, Nothing}

-- the longer of two lists that agree begins with the shorter
front_of : (xs ys : List (List ℕ)) → Agrees xs ys → length ys ≤ length xs → xs ≡ ys ++ drop (length ys) xs
front_of xs ys same le =
    sym (take-append-drop (length ys) xs)
    ∙ ap (λ front. front ++ drop (length ys) xs) (same_lists (take (length ys) xs) ys (length-take-le (length ys) xs le)
    (λ k d lt.
    let near : k < length ys = omega (arith, length-take-le (length ys) xs le) in
    get_or-take (length ys) xs k d near ∙ get_or_default xs k d [] (omega arith) ∙ same k (omega arith) near ∙ get_or_default ys k [] d near))

turned : (xs ys : List (List ℕ)) → Agrees xs ys → Agrees ys xs
turned xs ys same = λ k lx ly. sym (same k ly lx)

pub whole : (item : LogItem) (slots : List (List ℕ)) → IsSpelled item → Agrees slots (spelling item) → length (spelling item) ≤ length slots
    → BeginsWith item slots
whole item slots spelled same le = record {
  spelled = spelled;
  rest = drop (length (spelling item)) slots;
  is = front_of slots (spelling item) same le;
}

pub part : (item : LogItem) (slots : List (List ℕ)) → IsSpelled item → Agrees slots (spelling item) → length slots < length (spelling item)
    → BeginsItem slots
part item slots spelled same lt = record {
  item = item;
  spelled = spelled;
  rest = drop (length slots) (spelling item);
  more = λ e. absurd (omega (arith, ap length e, length-drop (length slots) (spelling item)));
  is = sym (front_of (spelling item) slots (turned slots (spelling item) same) (omega arith));
}

append_agrees : (xs rest ys : List (List ℕ)) → xs ++ rest ≡ ys → Agrees xs ys
append_agrees xs rest ys e = λ k lx ly. sym (get_or_append_left xs rest [] k lx) ∙ ap (λ zs. get_or zs k []) e

pub whole_agrees : (item : LogItem) (slots : List (List ℕ)) → BeginsWith item slots → Agrees slots (spelling item)
whole_agrees item slots w = turned (spelling item) slots (append_agrees (spelling item) w.rest slots (sym w.is))

pub part_agrees : (slots : List (List ℕ)) (p : BeginsItem slots) → Agrees slots (spelling p.item)
part_agrees slots p = append_agrees slots p.rest (spelling p.item) p.is

-- nothing, where no item agrees
pub nothing : (slots : List (List ℕ)) → ((item : LogItem) → IsSpelled item → Agrees slots (spelling item) → ⊥) → BeginsNothing slots
nothing slots none = record {
  no_part = λ p. none p.item p.spelled (part_agrees slots p);
  no_whole = λ item w. none item w.spelled (whole_agrees item slots w);
}

-- no slots at all are the beginning of any item
pub no_slots : (slots : List (List ℕ)) → length slots ≡ 0 → BeginsItem slots
unfolding spelling
no_slots slots none = part (Size 0) slots (lit≤ tt) (λ k lx ly. absurd (omega arith)) (omega arith)

-- what begins with an item is no beginning of another
pub part_no_whole : (slots : List (List ℕ)) → BeginsItem slots → (item : LogItem) → BeginsWith item slots → ⊥
part_no_whole slots p item w =
    let same : spelling item ++ (w.rest ++ p.rest) ≡ spelling p.item ++ [] =
    sym (append_assoc (spelling item) w.rest p.rest) ∙ ap (λ front. front ++ p.rest) (sym w.is) ∙ p.is ∙ sym (append-nil (spelling p.item)) in
    let one = spelling_one item p.item (w.rest ++ p.rest) [] w.spelled p.spelled same in
    p.more (nil_from_length p.rest (omega (arith, ap length one.rest, length-append w.rest p.rest)))

whole_one : (x y : LogItem) (n m : ℕ) (slots : List (List ℕ)) → IsFrontOf (Whole x n) slots → IsFrontOf (Whole y m) slots → (x ≡ y) × (n ≡ m)
whole_one x y n m slots f g =
    let one = spelling_one x y f.0.rest g.0.rest f.0.spelled g.0.spelled (sym f.0.is ∙ g.0.is) in
    (one.item, f.1 ∙ ap (λ i. length (spelling i)) one.item ∙ sym g.1)

-- slots begin with one thing
pub front_one : HasOneFront
front_one (Whole x n) (Whole y m) slots f g = let one = whole_one x y n m slots f g in (λ i. Whole (one.0 i) (one.1 i))
front_one (Whole x n) Part slots f g = absurd (part_no_whole slots g x f.0)
front_one (Whole x n) Nothing slots f g = absurd (g.no_whole x f.0)
front_one Part (Whole y m) slots f g = absurd (part_no_whole slots f y g.0)
front_one Part Part slots f g = refl
front_one Part Nothing slots f g = absurd (g.no_part f)
front_one Nothing (Whole y m) slots f g = absurd (f.no_whole y g.0)
front_one Nothing Part slots f g = absurd (f.no_part g)
front_one Nothing Nothing slots f g = refl

pub read_again : IsReadAgain
read_again item after good = (record { spelled = good; rest = after; is = refl }, refl)
