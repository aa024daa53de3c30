-- An input that a buffer holds is told by its lines, a longer one by the one line. Assumes nothing.
use Rattle.wire.proofs.Basics.{◌∙◌, sym, ◌≡◌, ap, subst, ℕ, List, true, false, Bool, length, take, ltb, le-ltb, lt-ltb, arith}
use Rattle.wire.specs.Choice.{pick}
use Rattle.stream.specs.Whole.{All, Whole, Longer, Held, Exceeds, HoldsAll}
use Rattle.output.specs.declared.Output.{Output}
use Rattle.output.specs.Output.{Finishes, Ends}
use Rattle.output.proofs.Adding.{ends_is}
use Rattle.log_lines.specs.Lines.{longer_line, input_lines, Tells, TellsTo}

module _ {most : ℕ} {lines : List ℕ → List ℕ} {o p : Output} {r : Bool} {x : All} (buf : List ℕ) (all : HoldsAll most buf x) where
  -- its part of the buffer, by another name, was told
  pub tells-whole : {k : ℕ} {input : List ℕ} → x ≡ Whole k → input ≡ take k buf → Ends o (lines input) p r → TellsTo most lines o p r
  tells-whole {k} q e f =
      let h : Held most buf k = subst (HoldsAll most buf) q all in
      let n : ltb most (length h.came) ≡ false = le-ltb most (length h.came) (omega (arith, h.fits, h.size)) in
      record {
        came = h.came;
        said = ends_is f (ap lines (e ∙ h.front) ∙ sym (ap (λ (b : Bool). pick b (longer_line most) (lines h.came)) n));
      }

  pub tells_longer : {m : ℕ} → x ≡ Longer → m ≡ most → Ends o (longer_line m) p r → TellsTo most lines o p r
  tells_longer q e f =
      let h : Exceeds most buf = subst (HoldsAll most buf) q all in
      let n : ltb most (length h.came) ≡ true = lt-ltb most (length h.came) h.more in
      record {
        came = h.came;
        said = ends_is f (ap longer_line e ∙ sym (ap (λ (b : Bool). pick b (longer_line most) (lines h.came)) n));
      }

-- where nothing stands before it, that is what a program over a log promises of its buffer
pub tells-begun : {most : ℕ} {lines : List ℕ → List ℕ} {o p : Output} {r : Bool} → o.at ≡ 0 → TellsTo most lines o p r → Tells most lines o.buf.now p.buf.now r
tells-begun {most} {lines} {o} {p} {r} e t =
    record { came = t.came; said = subst (λ (k : ℕ). Finishes o.buf.now k (input_lines most lines t.came) p.buf.now r) e t.said.finished }
