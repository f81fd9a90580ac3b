-- Lemmas over requests for what is made of operands: what is made and listed in a line answers the request.
use Rattle.std.proofs.Common.{◌≡◌, List, ℕ, subst}
use Rattle.std.specs.Prelude.{ℤ}
use Rattle.std.specs.declared.cmp.Ordering.{Ordering}
use Rattle.mesh_boolean_request.specs.Requests.{RequestedCombination}
use Rattle.mesh_operands.specs.Combining.{Answered, IsCombination, MayBeCombined}
use Rattle.mesh_operands.specs.Nearness.{IsCombinationWithin}
use Rattle.mesh_split.specs.Counting.{IsWithinLimit}
use Rattle.mesh_split.specs.declared.count.SplitCount.{SplitCount}
use Rattle.mesh_service.specs.Lines.{combined_text, told_combined_text}
use Rattle.mesh_service.specs.Near.{AnswersWithin}
use Rattle.mesh_service.specs.declared.near.Telling.{Telling}
use Rattle.mesh_service.specs.Requested.{for_combination}
use Rattle.mesh_service.specs.Served.{Answers}

pub combined_plainly : (order : ℤ → ℤ → Ordering) (request : RequestedCombination) (answer : Answered) (line : List ℕ) → MayBeCombined request.unit request.combined →
    IsCombination request.unit request.choices request.combined answer → line ≡ combined_text answer → Answers order (for_combination request) line
combined_plainly order request answer line accepted combined written =
    record { accepted = accepted; listed = record { answer = answer; combined = combined; written = written } }

-- the same with its nearness, within a limit on splits
pub combined_nearly : (telling : Telling) (order : ℤ → ℤ → Ordering) (request : RequestedCombination) (answer : Answered) (nearness : ℕ) (line : List ℕ) (before count : SplitCount) →
    before ≡ (record { made = 0; most = telling.most_splits }) → MayBeCombined request.unit request.combined → IsCombinationWithin nearness request.unit request.choices request.combined answer before count →
    IsWithinLimit count → line ≡ told_combined_text telling.nearness nearness answer → AnswersWithin telling order (for_combination request) line
combined_nearly telling order request answer nearness line before count begun accepted combined within written =
    record {
      accepted = accepted;
      listed = record {
        answer = answer;
        nearness = nearness;
        combined = record { count = count; counted = subst (λ (b : SplitCount). IsCombinationWithin nearness request.unit request.choices request.combined answer b count) begun combined; so = within };
        written = written;
      };
    }
