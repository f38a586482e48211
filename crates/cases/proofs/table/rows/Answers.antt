use Rattle.std.proofs.Common.{refl}
use Rattle.cases.proofs.table.rows.Goals as goal

-- each part is by computing
pub returns : goal.returns
returns c =
    record {
      sequence = (record { size = refl; number = refl; contents = refl; even = refl; odd = refl }, (record { size = refl; number = refl; contents = refl; even = refl; odd = refl }, (record { size = refl; number = refl; contents = refl; even = refl; odd = refl }, (record { size = refl; number = refl; contents = refl; even = refl; odd = refl }, (record { size = refl; number = refl; contents = refl; even = refl; odd = refl }, (record { size = refl; number = refl; contents = refl; even = refl; odd = refl }, (record { size = refl; number = refl; contents = refl; even = refl; odd = refl }, tt)))))));
      puts = ((refl, refl), ((refl, refl), ((refl, refl), ((refl, refl), ((refl, refl), ((refl, refl), ((refl, refl), tt)))))));
      from_third = (refl, (refl, tt));
      worn = ((refl, (refl, refl, refl, refl)), ((refl, (refl, refl, refl, refl)), tt));
      device = λ supply p x. refl;
      pairs = (λ xs even odd. ((refl, refl, refl, refl, (refl, refl, refl, refl, tt)), refl, refl), (λ xs even odd. ((refl, refl, refl, refl, tt), refl, refl), (λ xs even odd. ((refl, refl, refl, refl, tt), refl, refl), tt)));
    }
