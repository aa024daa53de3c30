-- For the code: what the reader's answer, and the numbers that it left, say of a payload. Assumes nothing.
use Rattle.wire.proofs.Basics.{◌∙◌, sym, ◌≡◌, ap, ℕ, ◌≤◌, List, false, length, take, ℤ, le-ltb, arith}
use Rattle.lmcp.specs.Found.{Numbers}
use Rattle.lmcp.specs.Lists.{read_list}
use Rattle.lmcp.specs.Message.{ReadTo}
use Rattle.lmcp.proofs.Lent.{Listed, read}
use Rattle.count_rules.specs.Marks.{pit_list_of, list_read, list_in}
use Rattle.count_rules.specs.Count.{too_long}

-- n numbers: they are not too long, and the list read is the one that they spell
pub record IsRead (payload : List ℕ) (room n : ℕ) (list' : List ℤ) : Type 0 where
  pub fits : too_long room (read_list payload) ≡ false
  pub within : n ≤ room
  pub numbers : list_in payload ≡ pit_list_of (take n list')

pub payload-read : (payload : List ℕ) (list : List ℤ) (n : ℕ) (list' : List ℤ) → ReadTo (read_list payload) list (Numbers n) list' → IsRead payload (length list) n list'
unfolding list_in list_read
payload-read payload list n list' a =
    let r : Listed (read_list payload) list n list' = read (read_list payload) list n list' a in
    let w : n ≤ length list = r.within in
    let s : n ≡ length r.numbers = r.size in
    record {
      fits = ap (too_long (length list)) r.is ∙ le-ltb (length list) (length r.numbers) (omega arith);
      within = w;
      numbers = ap list_read r.is ∙ ap pit_list_of (sym r.front);
    }
