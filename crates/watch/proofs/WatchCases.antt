-- The watch by its cases, one law for each answer and each move. Assumes nothing.
use Rattle.wire.proofs.Basics.{◌∙◌, sym, ◌≡◌, refl, ℕ, ◌≤◌, ◌+◌, ◌<◌, true, false, get_or, set, le-ltb, lt-ltb, le-leb, lt-leb}
use Rattle.watch.specs.declared.Watch.{Watch}
use Rattle.watch.specs.Limits.{max_senders}
use Rattle.differences.specs.Noted.{Noted, first, same, late, restarted, refused, moves}
use Rattle.differences.specs.Difference.{difference, told}
use Rattle.watch.specs.Senders.{sender_place, set_last, moved}
use Rattle.watch.specs.Watching.{asked, asked_at, after}

module _ (w : Watch) (sender number : ℕ) where
  -- it claims more than 16
  pub asked_claims : max_senders < w.count → asked w sender number ≡ refused 14
  unfolding asked
  asked_claims h = rw (lt-leb w.count max_senders h)

  pub moved_claims : max_senders < w.count → moved w sender number ≡ w
  unfolding moved
  moved_claims h = rw (lt-leb w.count max_senders h)

  module _ (at : ℕ) (sound : w.count ≤ max_senders) (here : at ≡ sender_place w sender) where
    pub asked-known : at < w.count → asked w sender number ≡ told number (difference number (get_or w.lasts at 0))
    unfolding asked asked_at
    asked-known h = rw (← here, le-leb w.count max_senders sound, lt-ltb at w.count h)

    pub asked-new : w.count ≤ at → at < max_senders → asked w sender number ≡ first
    unfolding asked asked_at
    asked-new h k = rw (← here, le-leb w.count max_senders sound, le-ltb at w.count h, lt-ltb at max_senders k)

    pub asked-full : w.count ≤ at → max_senders ≤ at → asked w sender number ≡ refused 14
    unfolding asked asked_at
    asked-full h k = rw (← here, le-leb w.count max_senders sound, le-ltb at w.count h, le-ltb at max_senders k)

    pub moved-full : max_senders ≤ at → moved w sender number ≡ w
    unfolding moved
    moved-full k = rw (← here, le-leb w.count max_senders sound, le-ltb at max_senders k)

    pub moved-room : at < max_senders → moved w sender number ≡ set_last w sender number at
    unfolding moved
    moved-room k = rw (← here, le-leb w.count max_senders sound, lt-ltb at max_senders k)

    pub moved-known : at < max_senders → at < w.count
        → moved w sender number ≡ record { senders = set w.senders at sender; lasts = set w.lasts at number; count = w.count }
    unfolding set_last
    moved-known k h = moved-room k ∙ rw (lt-ltb at w.count h)

    pub moved_new : at < max_senders → w.count ≤ at
        → moved w sender number ≡ record { senders = set w.senders at sender; lasts = set w.lasts at number; count = at + 1 }
    unfolding set_last
    moved_new k h = moved-room k ∙ rw (le-ltb at w.count h)

  pub after-moves : (answer : Noted) → answer ≡ asked w sender number → moves answer ≡ true → moved w sender number ≡ after w sender number
  unfolding after
  after-moves answer e m = rw (← e, m)

  pub after-stays : (answer : Noted) → answer ≡ asked w sender number → moves answer ≡ false → w ≡ after w sender number
  unfolding after
  after-stays answer e m = rw (← e, m)

  -- Same, Late and a refusal leave the watch as it is
  pub same-stays : asked w sender number ≡ same → after w sender number ≡ w
  same-stays e = sym (after-stays same (sym e) refl)

  pub late-stays : (by : ℕ) → asked w sender number ≡ late by → after w sender number ≡ w
  late-stays by e = sym (after-stays (late by) (sym e) refl)

  -- a restart moves it to the new number
  pub restarted-moves : (m : ℕ) → asked w sender number ≡ restarted m → after w sender number ≡ moved w sender number
  restarted-moves m e = sym (after-moves (restarted m) (sym e) refl)

  pub refused-stays : (by : ℕ) → asked w sender number ≡ refused by → after w sender number ≡ w
  refused-stays by e = sym (after-stays (refused by) (sym e) refl)
