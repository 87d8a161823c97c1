-- What the mark of the last turn says, as a pass knows it.
use Rattle.std.specs.Prelude.{◌≡◌, true, false, List, [], ◌∷◌, Option, Some, None}
use Rattle.count_board.specs.declared.told.Mark.{Mark}
use Rattle.count_board.specs.declared.view.Account.{Account}
use Rattle.count_board.specs.declared.view.Seen.{Seen}
use Rattle.count_board.specs.declared.view.Seen.TheVariants.{Count, Front, Turn}

-- the mark of the last turn that was seen
unfoldable pub last_mark_or : Option Mark → List Seen → Option Mark
last_mark_or mark [] = mark
last_mark_or mark (Count slot word ∷ xs) = last_mark_or mark xs
last_mark_or mark (Front front ∷ xs) = last_mark_or mark xs
last_mark_or mark (Turn n m ∷ xs) = last_mark_or (Some m) xs

abbrev pub last_mark : List Seen → Option Mark
last_mark seen = last_mark_or None seen

-- it says that the volume is stopped, and other things that it may say
abbrev pub SaysLast : Account → (Mark → Type 0) → Type 0
SaysLast a P = (mark : Mark) × (last_mark a.seen ≡ Some mark) × P mark

abbrev pub SaysStopped : Account → Type 0
SaysStopped a = SaysLast a (λ mark. mark.stopped ≡ true)

abbrev pub SaysRunning : Account → Type 0
SaysRunning a = SaysLast a (λ mark. mark.stopped ≡ false)
