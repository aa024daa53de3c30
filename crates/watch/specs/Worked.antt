-- Worked cases of the watch, beside m9 and m10 of the marked table. Definitions only.
use Rattle.std.specs.Prelude.{List, [], ◌∷◌, ◌++◌, map, ℕ, replicate}
use Rattle.watch.specs.declared.Watch.{Watch}
use Rattle.differences.specs.Noted.{Noted, first, forward, same, late, restarted, refused}
use Rattle.watch.specs.Senders.{empty}
use Rattle.watch.specs.Watching.{asked, after}

-- a number of a sender
pub record Come : Type 0 where
  pub sender : ℕ
  pub number : ℕ

abbrev pub of : ℕ → ℕ → Come
of sender number = record { sender = sender; number = number }

-- what is noted of each, in order of arrival
abbrev pub noted : Watch → List Come → List Noted
noted w [] = []
noted w (c ∷ l) = asked w c.sender c.number ∷ noted (after w c.sender c.number) l

pub record Case : Type 0 where
  pub watch : Watch
  pub come : List Come
  pub gives : List Noted

abbrev case : Watch → List Come → List Noted → Case
case w l g = record { watch = w; come = l; gives = g }

-- a watch that claims so many senders
abbrev claiming : ℕ → Watch
claiming n = record { senders = replicate 16 7; lasts = replicate 16 5; count = n }

abbrev sixteen : List ℕ
sixteen = 1 ∷ 2 ∷ 3 ∷ 4 ∷ 5 ∷ 6 ∷ 7 ∷ 8 ∷ 9 ∷ 10 ∷ 11 ∷ 12 ∷ 13 ∷ 14 ∷ 15 ∷ 16 ∷ []

abbrev pub cases : List Case
cases =
    -- Late and Same leave the watch at 5
    case empty (of 1 5 ∷ of 1 3 ∷ of 1 5 ∷ of 1 6 ∷ []) (first ∷ late 2 ∷ same ∷ forward 0 ∷ [])
    -- Late by 1,024; by 1,025 it is a restart, from which the counter is followed
    ∷ case empty (of 1 2000 ∷ of 1 976 ∷ of 1 975 ∷ of 1 976 ∷ of 1 974 ∷ []) (first ∷ late 1024 ∷ restarted 975 ∷ forward 0 ∷ late 2 ∷ [])
    -- sixteen senders, a seventeenth, and the sixteenth again
    ∷ case empty (map (λ (s : ℕ). of s 5) sixteen ++ of 17 5 ∷ of 16 7 ∷ []) (replicate 16 first ++ refused 14 ∷ forward 1 ∷ [])
    -- a watch that claims 16, and one that claims 17, asked of a sender that it has and of one that it has not
    ∷ case (claiming 16) (of 7 6 ∷ of 8 6 ∷ []) (forward 0 ∷ refused 14 ∷ [])
    ∷ case (claiming 17) (of 7 6 ∷ of 8 6 ∷ []) (refused 14 ∷ refused 14 ∷ [])
    ∷ []
