-- What the answers inside the calls on a page's stream mean.
use Rattle.std.specs.Prelude.{Option, Result}
use Rattle.error.specs.Refusal.{Answer}
use Rattle.error.specs.Answers.{result_answer, told_by}
use Rattle.error.specs.declared.Refusal.{Refusal}
use Rattle.std.proofs.Math.Option as maybe
use Rattle.scripthash_pages.specs.Entries.{StreamAt, Spot}
use Rattle.scripthash_pages.specs.declared.entries.StreamPlace.{StreamPlace}
use Rattle.scripthash_pages.specs.declared.appending.AppendSpot.{AppendSpot}

-- The place of a page's stream.
abbrev pub stream_place_answer : Result StreamPlace Refusal → Answer StreamAt
stream_place_answer = result_answer (λ place. record { off = place.off; count = place.count })

-- Where an offered number goes in a page.
abbrev pub spot_answer : Result (Option AppendSpot) Refusal → Answer (maybe.Option Spot)
spot_answer = result_answer (told_by (λ spot. record { at = spot.at; difference = spot.difference }))
