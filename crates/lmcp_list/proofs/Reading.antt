-- What the reader answers, and the list that it left, are said as the message's own line. Assumes nothing.
use Rattle.wire.proofs.Basics.{◌∙◌, ◌≡◌, ap, refl, ℕ, List, ◌++◌, true, false, Bool, length, sets, leb, ℤ, leb-true}
use Rattle.wire.specs.Choice.{pick}
use Rattle.wire.specs.Text.{ascii}
use Rattle.wire.proofs.Parts.{front_of}
use Rattle.lmcp.specs.Found.{Found, Numbers, Refused}
use Rattle.lmcp.specs.Run.{got, refused}
use Rattle.lmcp.specs.Read.{Read}
use Rattle.lmcp.specs.Message.{found, listed, ReadTo}
use Rattle.text.specs.Text.{decimal}
use Rattle.lmcp_list.specs.Lines.{spaced, refused_text, read_text}
use Rattle.lmcp_list.specs.Inside.{found_text, found_line}

-- the front of the list is what was stored
text-found : (x : Read) (list : List ℤ) → found_text (listed x list) (found x (length list)) ≡ read_text (length list) x
unfolding found listed
text-found (got zs rest) list = by (leb (length zs) (length list)) refl
  where
    by : (t : Bool) → leb (length zs) (length list) ≡ t
        → found_text (pick t (sets list 0 zs) list) (pick t (Numbers (length zs)) (Refused 13)) ≡ pick t (ascii " list" ++ spaced zs) (refused_text 13)
    by true h = ap (λ (l : List ℤ). ascii " list" ++ spaced l) (front_of list zs (leb-true (length zs) (length list) h))
    by false h = refl
text-found (refused number) list = refl

pub line-found : (x : Read) (n : ℕ) (list list' : List ℤ) (f : Found) → ReadTo x list f list' → found_line n list' f ≡ decimal n ++ read_text (length list) x ++ ascii "\n"
line-found x n list list' f r =
    (λ j. found_line n (r.left j) (r.gave j)) ∙ ap (λ (t : List ℕ). decimal n ++ t ++ ascii "\n") (text-found x list)
