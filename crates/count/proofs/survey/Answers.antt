use Rattle.wire.proofs.Basics.{◌∙◌, sym, ◌≡◌, ap, refl, ℕ, ◌+◌, ◌<◌, ◌≤◌, [], ◌∷◌, ◌++◌, length, length-append, le-ltb, lt-ltb, arith}
use Rattle.std.proofs.Common.{Ok, Some, None, Option}
use Rattle.std.proofs.lemmas.Result.{err_from_is_err_and}
use Rattle.wire.specs.Bytes.{Bytes}
use Rattle.flight_log.specs.declared.reader.EntryAt.{EntryAt}
use Rattle.flight_log.specs.Said.{entry_said}
use Rattle.flight_log.specs.Step.{step_told}
use Rattle.count_rules.specs.Count.{max_entries}
use Rattle.count.specs.Inside.{Entries, Refused, many, survey_of}
use Rattle.flight_log.proofs.EntriesPassed.{passed_none, passed-more, passed-all, passed-broken, ahead}
use Rattle.count.proofs.survey.Goals as goal

no_entry : (x : Option EntryAt) → ((e : EntryAt) → x ≡ Some e → ⊥) → x ≡ None
no_entry None f = refl
no_entry (Some e) f = absurd (f e refl)

too_many : (n : ℕ) → max_entries < n → Refused 62 ≡ many n
too_many n h = rw (lt-ltb max_entries n h)

so_many : (n : ℕ) → n ≤ max_entries → Entries n ≡ many n
so_many n h = rw (le-ltb max_entries n h)

pub loop-entry-init : goal.loop-entry-init
loop-entry-init c = record { entries = []; size = refl; passed = passed_none c.args.log.now (λ i. (c.type_inv.log i).fits) }

pub returns-in_err-entry : goal.returns-in_err-entry
returns-in_err-entry c =
    let b : Bytes c.args.log.now = λ i. (c.type_inv.log i).fits in
    let q = sym c.read_on.ensures ∙ ap step_told c.in_err-entry.was in
    let v = c.loop-entry.invariant in
    let p = err_from_is_err_and c.from_residual.result c.from_residual.ensures.1 in
    rw (p.1, p.2) (sym (ap survey_of (passed-broken c.args.log.now b v.entries c.loop-entry.place v.passed _ q)))

pub loop-entry-smaller : goal.loop-entry-smaller
loop-entry-smaller c =
    let b : Bytes c.args.log.now = λ i. (c.type_inv.log i).fits in
    let q = sym c.read_on.ensures ∙ ap step_told (c.in_ok-entry.was ∙ ap Ok c.in-Some.is) in
    omega (arith, (ahead c.args.log.now b _ c.loop-entry.place q).on, (ahead c.args.log.now b _ c.loop-entry.place q).within)

pub loop-entry-preserved : goal.loop-entry-preserved
loop-entry-preserved c =
    let b : Bytes c.args.log.now = λ i. (c.type_inv.log i).fits in
    let q = sym c.read_on.ensures ∙ ap step_told (c.in_ok-entry.was ∙ ap Ok c.in-Some.is) in
    let v = c.loop-entry.invariant in
    let e = entry_said c.args.log.now c.in-Some.entry in
    let m : length (v.entries ++ e ∷ []) ≡ length v.entries + 1 = length-append v.entries (e ∷ []) in
    record { entries = v.entries ++ e ∷ []; size = ap (λ (k : ℕ). k + 1) v.size ∙ sym m; passed = passed-more c.args.log.now b v.entries c.loop-entry.place v.passed _ q }

pub returns-then-n-gt-MAX_ENTRIES : goal.returns-then-n-gt-MAX_ENTRIES
returns-then-n-gt-MAX_ENTRIES c =
    let b : Bytes c.args.log.now = λ i. (c.type_inv.log i).fits in
    let q = sym c.read_on.ensures ∙ ap step_told (c.in_ok-entry.was ∙ ap Ok (no_entry _ c.in_default.not-Some)) in
    let v = c.loop-entry.invariant in
    too_many c.loop-entry.n c.if-n-gt-MAX_ENTRIES.true ∙ (ap many v.size ∙ sym (ap survey_of (passed-all c.args.log.now b v.entries c.loop-entry.place v.passed q)))

pub returns : goal.returns
returns c =
    let b : Bytes c.args.log.now = λ i. (c.type_inv.log i).fits in
    let q = sym c.read_on.ensures ∙ ap step_told (c.in_ok-entry.was ∙ ap Ok (no_entry _ c.in_default.not-Some)) in
    let v = c.loop-entry.invariant in
    so_many c.loop-entry.n c.if-n-gt-MAX_ENTRIES.false ∙ (ap many v.size ∙ sym (ap survey_of (passed-all c.args.log.now b v.entries c.loop-entry.place v.passed q)))
