mod AdviceLaws
