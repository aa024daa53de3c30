-- THE SEASON OF CALLS is the season of the definition, so its tile lines are those of all lists read in all flights. Assumes nothing.
use Rattle.wire.proofs.Basics.{◌∙◌, sym, ◌≡◌, ap, refl, subst, List, [], ◌∷◌, ◌++◌, inl, inr}
use Rattle.sorted_set.specs.Lists.{In, SameMembers}
use Rattle.sorted_set.proofs.Members.{in_left, in_right, in_either}
use Rattle.count_rules.specs.Marks.{PitList}
use Rattle.count_rules.specs.Run.{payloads}
use Rattle.pit_marks.specs.Lines.{Lays}
use Rattle.count_rules.specs.Walk.{seen_after}
use Rattle.count_rules.proofs.ReportByLists.{same-report}
use Rattle.stretch.specs.Stop.{Stretch}
use Rattle.stretch.specs.Stretch.{Clean}
use Rattle.season.specs.Season.{Map, map_of, Shows, Flight, flown, season, lists_of_all, Handed, Unrefused}
use Rattle.season.specs.Calls.{Flew, Flown, landed, flew, CodeSeason, CodeAnyOrder}
use Rattle.season.proofs.Fits.{Fits}
use Rattle.season.proofs.Flights.{flight-told, flight-left, flight-handed}
use Rattle.season.proofs.Seasons.{flown-went, same_lines, season-lines, lists-same}

-- what a map shows fits it
shows-fits : (m : Map) (seen : List PitList) → Shows m seen → Fits m.sets m.sizes
shows-fits m seen h = record { tiles = h.the-tiles.size; pits = h.the-pits.size; sure = h.the-sure.size }

module _ (f : Flight) (m n : Map) (seen : List PitList) (h : Shows m seen) (w : Flew f m n) where
  clean : Clean (flown f m)
  clean k e =
      w.unrefused k
      (ap (λ (x : Stretch). x.stop)
      (flight-told f m (shows-fits m seen h) w.log-bytes w.state₀ w.names₀ w.call w.state w.names w.opens w.words w.bytes w.most w.answer w.left w.counts w.to_the_end)
      ∙ e)

  handed : Handed (payloads (flown f m).replies)
  handed = flight-handed f m (shows-fits m seen h) w.log-bytes w.state₀ w.names₀ w.call w.state w.names w.opens w.words w.bytes w.most w.answer w.left w.counts w.to_the_end

  map-then : n ≡ map_of (flown f m).kit
  map-then =
      w.map_is
      ∙ ap map_of
      (flight-left f m (shows-fits m seen h) w.log-bytes w.state₀ w.names₀ w.call w.state w.names w.opens w.words w.bytes w.most w.answer w.left w.counts w.to_the_end)

  shows_then : Shows n (seen_after seen (payloads (flown f m).replies))
  shows_then = subst (λ (x : Map). Shows x (seen_after seen (payloads (flown f m).replies))) (sym map-then) ((flown-went f m seen h handed).has clean)

-- the same map, and nothing stood against any flight
pub record Same (fs : List Flight) (m m' : Map) : Type 0 where
  pub is : m' ≡ season fs m
  pub unrefused : Unrefused fs m

pub same-season : (fs : List Flight) (m m' : Map) (seen : List PitList) → Shows m seen → Flown fs m m' → Same fs m m'
unfolding season Unrefused
same-season [] m m' seen h landed = record { is = refl; unrefused = tt }
same-season (f ∷ fs) m m' seen h (flew {n = n} w ws) =
    let e : n ≡ map_of (flown f m).kit = map-then f m n seen h w in
    let s : Same fs n m' = same-season fs n m' (seen_after seen (payloads (flown f m).replies)) (shows_then f m n seen h w) ws in
    record {
      is = s.is ∙ ap (season fs) e;
      unrefused = (w.log-bytes, clean f m n seen h w, handed f m n seen h w, subst (λ (x : Map). Unrefused fs x) e s.unrefused);
    }

pub code-season : CodeSeason
code-season fs m m' seen h w tile pit certain L =
    let s : Same fs m m' = same-season fs m m' seen h w in
    season-lines fs m seen h s.unrefused tile pit certain (subst (λ (x : Map). Lays x.sets x.sizes tile pit certain) s.is L)

pub code_any-order : CodeAnyOrder
code_any-order fs gs m m' seen h w s tile pit certain L =
    let e : SameMembers (lists_of_all fs) (lists_of_all gs) = lists-same fs gs s in
    same_lines (lists_of_all fs ++ seen) (lists_of_all gs ++ seen) (same-report (lists_of_all fs ++ seen) (lists_of_all gs ++ seen) (record {
      there = behind (lists_of_all fs) (lists_of_all gs) e.there;
      back = behind (lists_of_all gs) (lists_of_all fs) e.back;
    })) tile pit certain (code-season fs m m' seen h w tile pit certain L)
  where
    behind : (ls ms : List PitList) → ((x : PitList) → In x ls → In x ms) → (x : PitList) → In x (ls ++ seen) → In x (ms ++ seen)
    behind ls ms sub x i = elim (in_either x ls seen i) [ inl j ↦ in_left x ms seen (sub x j) | inr j ↦ in_right x ms seen j ]
