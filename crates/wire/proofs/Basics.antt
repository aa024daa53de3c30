-- What most proofs begin with, from the libraries: equations, numbers, lists, truth values, and what the tactics go by. Each is passed on as it is.
pub use mathlib.Core.Path.{◌∙◌, sym, ◌≡◌, ap, refl, subst, subst₂}
pub use Prim.Native.Nat.{ℕ, ◌≤◌, ◌+◌, ◌<◌, ◌-◌, suc, zero, ◌*◌, ◌^◌, ◌%◌, min, ◌/◌, zero-le, suc-le-suc}
pub use mathlib.Core.List.{List, [], ◌∷◌, ◌++◌, append_assoc, map, append-nil}
pub use mathlib.Core.Bool.{true, false, Bool, ◌&&◌, ◌||◌, not, or-true}
pub use mathlib.Core.Logic.{inl, inr, ◌≢◌, ◌⊎◌, ⊎_elim}
pub use mathlib.Core.Option.{some, none, Option, map as Option·map}
pub use lib.ListN.{length, drop, get_or, take, length-append, length-drop, set, replicate, length-set, length-replicate, length-take, drop_of_length-le, take-append-drop, get_or-eq_default as List·getD-eq-default}
pub use lib.ListN.{length-map, get_or-replicate}
pub use lib.Seq.{length-take-le, drop-drop, sets, take_all, drop_at, slice, get_or-drop, get_or-set_other, take_at, drop-cons, get_or-take, take-add, take-suc, take-length, get_or-set_same, ext_get_or}
pub use lib.Seq.{take-append_seam, set_out, drop-append_seam, take-take, drop-append-le}
pub use lib.Dec.{eqb, ltb, leb, lit<, lit≤}
pub use lib.IntN.{ℤ, pos, negsuc, nat_abs}
pub use borrow.Author.Tests.{eq-eqb, le-ltb, ne_eqb, lt-ltb, eqb-true, ltb-false, le-leb, ltb-true, not-false, not-true, lt-leb, eqb-false, leb-true, leb-false}
pub use native.Mathlib.Nat.{not-suc-le-zero, le_refl, zero-add, le_of_suc-le-suc, pow-suc, one-mul, suc-mul, le_trans, zero-mul, pow-le-pow_right}
pub use native.Mathlib.Decide.{ℕ_discrete, dec_le}
pub use native.Mathlib.Numerals.{add-one}
pub use native.Mathlib.Omega.{arith}
pub use borrow.Author.Rules.{rules}
