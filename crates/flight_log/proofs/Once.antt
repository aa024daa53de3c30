-- No second answer satisfies a contract of this crate: `first-once`, `step-once`, and for the rest `one_answer` of wire/proofs/Once; and no second log. Assumes nothing.
use Rattle.wire.proofs.Basics.{◌∙◌, sym, ◌≡◌, ap, refl, ℕ, List, some}
use Rattle.std.proofs.Common.{Result, Ok, Err, Option, Some, None}
use Rattle.refusals.specs.declared.Refusal.{Refusal}
use Rattle.refusals.specs.Numbers.{number_of}
use Rattle.refusals.proofs.Names.{same_number}
use Rattle.flight_log.specs.declared.reader.EntryAt.{EntryAt}
use Rattle.flight_log.specs.declared.reader.Limits.{Limits}
use Rattle.flight_log.specs.First.{first_told}
use Rattle.flight_log.specs.Step.{step_told}
use Rattle.flight_log.specs.Editions.{Edition, Lawful, edition_in}
use Rattle.flight_log.specs.Entries.{Entry, AllKeep, log_of}
use Rattle.flight_log.specs.Listed.{whole, entries_in}
use Rattle.flight_log.proofs.LogRoundTrip.{entries-of-log}

-- no two editions, limits or lists of entries have one log
pub log-once : (v w : Edition) → Lawful v → Lawful w → (es ds : List Entry) → AllKeep es → AllKeep ds → log_of v es ≡ log_of w ds → (v ≡ w) × (es ≡ ds)
log-once v w l m es ds p q e =
    let f = entries-of-log v l es p in
    let g = entries-of-log w m ds q in
    let h : some v ≡ some w = sym f.0 ∙ ap edition_in e ∙ g.0 in
    let k : whole es ≡ whole ds = sym f.1 ∙ ap entries_in e ∙ g.1 in
    (cc, cc)

-- the code's answers say one thing

pub first-once : (r s : Result (ℕ × Limits) Refusal) → first_told r ≡ first_told s → r ≡ s
first-once (Ok (at, l)) (Ok (place, m)) e =
    let f : at ≡ place = cc in
    let g : l ≡ m = cc in
    rw (f, g) refl
first-once (Ok (at, l)) (Err s) e = cc
first-once (Err r) (Ok (place, m)) e = cc
first-once (Err r) (Err s) e = let f : number_of r ≡ number_of s = cc in ap Err (same_number r s f)

pub step-once : (r s : Result (Option EntryAt) Refusal) → step_told r ≡ step_told s → r ≡ s
step-once (Ok (Some d)) (Ok (Some e)) q = let f : d ≡ e = cc in rw f refl
step-once (Ok (Some d)) (Ok None) q = cc
step-once (Ok (Some d)) (Err s) q = cc
step-once (Ok None) (Ok (Some e)) q = cc
step-once (Ok None) (Ok None) q = refl
step-once (Ok None) (Err s) q = cc
step-once (Err r) (Ok (Some e)) q = cc
step-once (Err r) (Ok None) q = cc
step-once (Err r) (Err s) q = let f : number_of r ≡ number_of s = cc in ap Err (same_number r s f)
