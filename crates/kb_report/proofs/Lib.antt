mod AnswerLaws
pub mod LinesOfTexts
pub mod Fronts
pub mod BothSections
pub mod SectionLaws
pub mod SystemLines
mod OrderLines
pub mod ReadLines
pub mod SidesRead
mod NamesRead
pub mod StepsRead
pub mod SystemForm
pub mod Reading
pub mod SystemParts
