-- An empty payload is no message: it leaves the number list and the sets. Assumes nothing.
use Rattle.wire.proofs.Basics.{◌≡◌, ap, refl, List, [], ℤ}
use Rattle.lmcp.specs.Run.{refused, prepend}
use Rattle.lmcp.specs.Read.{Read}
use Rattle.lmcp.specs.Message.{frame, read_message_lem, listed}
use Rattle.lmcp.specs.Lists.{read_as, read_list}

pub empty-read : read_list [] ≡ refused 20
unfolding read_list read_as read_message_lem frame prepend
empty-read = refl

pub empty_left : (list : List ℤ) → listed (read_list []) list ≡ list
unfolding listed
empty_left list = ap (λ (x : Read). listed x list) empty-read
