pub mod XorshiftLaws
