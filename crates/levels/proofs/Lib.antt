pub mod PairLaws
pub mod EndsLaws
pub mod HeightLaws
pub mod ExamplesRight
