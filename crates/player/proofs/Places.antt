-- Lines that show where parcels are.
use Rattle.std.proofs.Common.{◌≡◌, ℕ, List, [], ◌∷◌, ◌++◌, map, ap, ◌∙◌, append-nil}
use Rattle.std.specs.Map.Iter.{deref_pair}
use Rattle.std.specs.Borrow.{Bor}
use Rattle.std.proofs.lemmas.List.{map-append}
use Rattle.std.proofs.lemmas.Grind.{flat_map-append}
use Rattle.parcels.specs.declared.Step.{Step}
use Rattle.player.specs.Report.{place_line, place_lines}

-- one line more, of entries that are lent
pub one_more : (es : List (Bor ℕ × Bor Step)) (e : Bor ℕ × Bor Step) → place_lines (map deref_pair (es ++ e ∷ [])) ≡ place_lines (map deref_pair es) ++ place_line e.0.now e.1.now
one_more es e =
    ap place_lines (map-append deref_pair es (e ∷ []))
    ∙ flat_map-append (λ (p : ℕ × Step). place_line p.0 p.1) (map deref_pair es) (deref_pair e ∷ [])
    ∙ ap (λ t. place_lines (map deref_pair es) ++ t) (append-nil (place_line e.0.now e.1.now))
